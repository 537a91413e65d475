-- The ranges that N, n and the rows keep to: refusals 4 and 6 to 9, for a sheet's rows and a set's alike.
use Rattle.std.specs.Prelude.{ℕ, zero, suc, ◌+◌, ◌≤◌, ◌<◌, ◌≡◌, Bool, not, List, [], ◌∷◌, get_or, replicate, ltb, leb, eqb}
use Rattle.laws.specs.Choice.{pick, Line, ◌gives◌, first_of}
use Rattle.laws.specs.Search.{first}
use Rattle.sheet.specs.Refusals.{COUNT, PROCESSOR, PERIOD, DEADLINE, PHASES, refused, accepted, or_else}
use Rattle.sheet.specs.declared.Row.{Row}
use Rattle.sheet.specs.declared.Set.{Set}
use Rattle.sheet.specs.declared.Refusal.{Refusal}

abbrev pub most_processors : ℕ
most_processors = 8

abbrev pub most_rows : ℕ
most_rows = 32

-- The most that T, m and c may be.
abbrev pub most_ticks : ℕ
most_ticks = 1000000

-- What is wrong with N processors and n rows, line by line.
abbrev pub count_table : ℕ → ℕ → List Line
count_table N n = eqb N 0 gives COUNT ∷ ltb most_processors N gives COUNT ∷ ltb most_rows n gives COUNT ∷ []

-- What is wrong with a row, on a board of N processors, after a row on the processor `before`.
abbrev pub row_table : ℕ → ℕ → Row → List Line
row_table N before r =
    leb N r.processor gives PROCESSOR
    ∷ ltb r.processor before gives PROCESSOR
    ∷ eqb r.period 0 gives PERIOD
    ∷ ltb most_ticks r.period gives PERIOD
    ∷ eqb r.deadline 0 gives DEADLINE
    ∷ ltb r.period r.deadline gives DEADLINE
    ∷ ltb most_ticks r.memory gives PHASES
    ∷ ltb most_ticks r.computation gives PHASES
    ∷ eqb (r.memory + r.computation) 0 gives PHASES
    ∷ []

unfoldable pub count_fault : ℕ → ℕ → ℕ
count_fault N n = first_of (count_table N n)

unfoldable pub row_fault : ℕ → ℕ → Row → ℕ
row_fault N before r = first_of (row_table N before r)

-- The processor of the row before row i; 0 before the first.
abbrev pub before : (ℕ → Row) → ℕ → ℕ
before row zero = 0
before row (suc i) = (row i).processor

-- The first of n rows in turn at which there is a fault: its number and the row.
abbrev pub faulty : (ℕ → ℕ) → ℕ → Bool
faulty fault i = not (eqb (fault i) 0)

abbrev pub refused_at : (ℕ → ℕ) → ℕ → ℕ → Refusal
refused_at fault n i = pick (ltb i n) (refused (fault i) i) accepted

unfoldable pub first_fault : (ℕ → ℕ) → ℕ → Refusal
first_fault fault n = refused_at fault n (first n (faulty fault))

-- All zero.
abbrev pub zero_row : Row
zero_row = record { processor = 0; memory = 0; computation = 0; period = 0; deadline = 0 }

abbrev pub zero_set : Set
zero_set = record { processors = 0; count = 0; rows = replicate most_rows zero_row }

-- Row i of a set; a place past its array is zero.
abbrev pub row_in : Set → ℕ → Row
row_in set i = get_or set.rows i zero_row

-- What is wrong with row i of a set.
unfoldable pub set_row_fault : Set → ℕ → ℕ
set_row_fault set i = row_fault set.processors (before (row_in set) i) (row_in set i)

-- What is wrong with a set: 4, then 6 to 9 for each row in turn.
unfoldable pub set_refusal : Set → Refusal
set_refusal set = or_else (refused (count_fault set.processors set.count) 0) (first_fault (set_row_fault set) set.count)

-- The phase lengths of a row, and e: cited wherever m, c or e stands.
abbrev pub memory_of : Row → ℕ
memory_of r = r.memory

abbrev pub computation_of : Row → ℕ
computation_of r = r.computation

abbrev pub length_of : Row → ℕ
length_of r = memory_of r + computation_of r

-- A row within its ranges.
pub record InRange (N before : ℕ) (r : Row) : Type 0 where
  pub below : r.processor < N
  pub after : before ≤ r.processor
  pub period_some : 1 ≤ r.period
  pub period_most : r.period ≤ most_ticks
  pub deadline_some : 1 ≤ r.deadline
  pub deadline_most : r.deadline ≤ r.period
  pub memory_most : memory_of r ≤ most_ticks
  pub computation_most : computation_of r ≤ most_ticks
  pub length_some : 1 ≤ length_of r

-- A well-formed set: what a sheet that reads gives, and what a state of the stated shape holds.
pub record WellFormed (set : Set) : Type 0 where
  pub processors_some : 1 ≤ set.processors
  pub processors_most : set.processors ≤ most_processors
  pub rows_most : set.count ≤ most_rows
  pub row : (i : ℕ) → i < set.count → InRange set.processors (before (row_in set) i) (row_in set i)
  pub past : (i : ℕ) → set.count ≤ i → i < most_rows → row_in set i ≡ zero_row
