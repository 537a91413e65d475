-- The bounds of a set: B and the sums of each row's equations, and the rows worked in sheet order.
use Rattle.std.specs.Prelude.{ℕ, zero, suc, ◌+◌, ◌-◌, ◌*◌, ◌/◌, Bool, ◌&&◌, List, [], ◌∷◌, ◌++◌, ltb, eqb, get_or}
use Rattle.laws.specs.Choice.{pick}
use Rattle.laws.specs.Rounding.{up}
use Rattle.laws.specs.Sums.{max_to}
use Rattle.laws.specs.SumsWhere.{sum_where}
use Rattle.sheet.specs.declared.Row.{Row}
use Rattle.sheet.specs.declared.Set.{Set}
use Rattle.sheet.specs.Ranges.{row_in, memory_of, computation_of, length_of}
use Rattle.analysis.specs.Equations.{Equations, verdict_of}
use Rattle.std.specs.Prelude.{Ok, Err}
use Rattle.analysis.specs.declared.Fault.{Fault}
use Rattle.analysis.specs.declared.Fault.TheVariants.{Busy, Late}

-- How row j stands to row i: a lower row of its processor, a higher one, or a row of a higher-ranked processor.
abbrev pub is_lower : Set → ℕ → ℕ → Bool
is_lower set i j = eqb (row_in set j).processor (row_in set i).processor && ltb i j

abbrev pub is_higher : Set → ℕ → ℕ → Bool
is_higher set i j = eqb (row_in set j).processor (row_in set i).processor && ltb j i

abbrev pub outranks : Set → ℕ → ℕ → Bool
outranks set i j = ltb (row_in set j).processor (row_in set i).processor

-- A number that counts only where a test holds.
abbrev pub only : Bool → ℕ → ℕ
only test x = pick test x 0

-- The sum and the largest, over the rows of a set that pass a test.
unfoldable pub sum_over : Set → (ℕ → Bool) → (ℕ → ℕ) → ℕ
sum_over set test f = sum_where test f set.count

unfoldable pub largest_over : Set → (ℕ → Bool) → (ℕ → ℕ) → ℕ
largest_over set test f = max_to (λ j. only (test j) (f j)) set.count

-- What a row of a given length asks of its processor within x: with its releases before x, and with one at x too.
abbrev pub asked : (Row → ℕ) → Row → ℕ → ℕ
asked length r x = up x r.period * length r

abbrev pub asked_with : (Row → ℕ) → Row → ℕ → ℕ
asked_with length r x = (x / r.period + 1) * length r

-- What a row with the bound R takes of the memory within x.
abbrev pub taken : Row → ℕ → ℕ → ℕ
taken r R x = up (x + R - length_of r) r.period * memory_of r

-- (1)
unfoldable pub blocking : Set → ℕ → ℕ
blocking set i = largest_over set (is_lower set i) (λ j. length_of (row_in set j))

-- (3), where row j has the bound R j
unfoldable pub token_taken : Set → (ℕ → ℕ) → ℕ → ℕ → ℕ
token_taken set R i x = sum_over set (outranks set i) (λ j. taken (row_in set j) (R j) x)

-- The equations of row i, where row j has the bound R j.
unfoldable pub equations_of : Set → (ℕ → ℕ) → ℕ → Equations
equations_of set R i =
    record {
      blocked = blocking set i;
      memory = memory_of (row_in set i);
      computation = computation_of (row_in set i);
      period = (row_in set i).period;
      above = λ x. sum_over set (is_higher set i) (λ j. asked length_of (row_in set j) x);
      started = λ x. sum_over set (is_higher set i) (λ j. asked_with length_of (row_in set j) x);
      token = token_taken set R i;
    }

-- What the analysis of a set comes to.
pub data Outcome : Type 0 where
  Accepted : List ℕ → Outcome
  BusyAt : ℕ → Outcome
  LateAt : ℕ → ℕ → Outcome

abbrev pub bound_in : List ℕ → ℕ → ℕ
bound_in bounds j = get_or bounds j 0

-- The outcome of a row that has no bound.
abbrev pub fault_at : ℕ → Fault → Outcome
fault_at i Busy = BusyAt i
fault_at i (Late q) = LateAt i q

-- Row i, once the rows before it have bounds.
unfoldable pub row_after : Set → List ℕ → ℕ → Outcome
row_after set bounds i =
    elim (verdict_of (equations_of set (bound_in bounds) i) (row_in set i).deadline) [
      | Ok r ↦ Accepted (bounds ++ (r ∷ []))
      | Err fault ↦ fault_at i fault
    ]

-- The first rows in turn; the first that is refused ends it.
unfoldable pub worked : Set → ℕ → Outcome
worked set zero = Accepted []
worked set (suc i) =
    elim (worked set i) [ Accepted bounds ↦ row_after set bounds i | BusyAt j ↦ BusyAt j | LateAt j q ↦ LateAt j q ]

unfoldable pub analyse_set : Set → Outcome
analyse_set set = worked set set.count
