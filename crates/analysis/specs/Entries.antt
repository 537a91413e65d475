-- How the code holds what a row's sums need: the rows that have their bounds, each as three numbers. Only the contracts of
-- this crate's own functions cite it.
use Rattle.std.specs.Prelude.{ℕ, zero, suc, ◌+◌, ◌*◌, ◌/◌, ◌≤◌, List, sum_by}
use Rattle.sheet.specs.declared.Row.{Row}
use Rattle.sheet.specs.Ranges.{most_ticks, memory_of, computation_of, length_of}
use Rattle.analysis.specs.Equations.{Equations}
use Rattle.analysis.specs.declared.entries.Entry.{Entry}

-- The most rows that a sum is over.
abbrev pub places : ℕ
places = 32

-- The most that a term and a sum come to.
abbrev pub most_term : ℕ
most_term = 12000000000000

abbrev pub most_sum : ℕ
most_sum = 384000000000000

-- What a row comes to within x: (x + lead) / T rounded down, times the weight. A lead of R - e + T - 1 rounds x + R - e up;
-- a lead of T rounds x down and adds one.
abbrev pub entry_term : ℕ → Entry → ℕ
entry_term x e = (x + e.lead) / e.period * e.weight

-- The sum over rows.
unfoldable pub entry_sum : List Entry → ℕ → ℕ
entry_sum entries x = sum_by (entry_term x) entries

-- The equation of a start; with no higher rows, that of a memory end.
unfoldable pub climb_at : (ranked higher : List Entry) (fixed x : ℕ) → ℕ
climb_at ranked higher fixed x = fixed + entry_sum higher x + entry_sum ranked x

-- What is asked before a number is what is asked with the releases at the one before it.
abbrev pub before_next : (ℕ → ℕ) → ℕ → ℕ
before_next f zero = 0
before_next f (suc x) = f x

-- The equations that they say: of a row with its B, the rows of higher-ranked processors and the higher rows of its own.
unfoldable pub entry_equations : (ranked higher : List Entry) → Row → ℕ → Equations
entry_equations ranked higher row blocked =
    record {
      blocked = blocked;
      memory = memory_of row;
      computation = computation_of row;
      period = row.period;
      above = before_next (entry_sum higher);
      started = entry_sum higher;
      token = entry_sum ranked;
    }

-- The row and its B are within their ranges.
pub record Fit (r : Row) (blocked : ℕ) : Type 0 where
  pub period_some : 1 ≤ r.period
  pub period_most : r.period ≤ most_ticks
  pub deadline_most : r.deadline ≤ r.period
  pub memory_most : memory_of r ≤ most_ticks
  pub computation_most : computation_of r ≤ most_ticks
  pub length_some : 1 ≤ length_of r
  pub blocked_most : blocked ≤ 2 * most_ticks

-- The row has the bound R.
pub record Bounded (r : Row) (R : ℕ) : Type 0 where
  pub fit : Fit r 0
  pub bound_some : length_of r ≤ R
  pub bound_most : R ≤ r.deadline
