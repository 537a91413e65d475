-- Laws of one job: what rules 1, 3 and 4 make of its standing, and what a processor's turn makes of it.
use Prim.Native.Nat.{ℕ}
use mathlib.Core.Path.{◌≡◌, refl, ap}
use mathlib.Core.Bool.{Bool, true, false}
use mathlib.Core.List.{[], ◌∷◌}
use mathlib.Core.Logic.{◌⊎◌, inl, inr, ⊎_elim}
use native.Mathlib.Omega.{arith}
use lib.Dec.{eqb}
use denote.Enum.Declared.{tag_of}
use types.Run.{OneOf}
use Rattle.std.specs.Prelude.{Some, None}
use Rattle.laws.specs.Choice.{pick}
use Rattle.laws.specs.ChoiceLaws.{true_not_false}
use Rattle.sheet.specs.Ranges.{memory_of, computation_of}
use Rattle.sheet.specs.declared.Row.{Row}
use Rattle.board.specs.declared.Job.{Job}
use Rattle.board.specs.declared.Standing.{Standing}
use Rattle.board.specs.declared.Standing.TheVariants.{Absent, Waiting, Memory, Computation}
use Rattle.board.specs.States.{is_absent, is_memory}
use Rattle.board.specs.Rules.{stand_as, begins, steps, finished}
use Rattle.board.specs.Parts.{token_in, after_in, turn_of}
use Rattle.board.specs.contracts.Standing.{the_type}

pub no_hold : {A : Type 0} (i : ℕ) → None ≡ Some i → A
no_hold i e = absurd (let z : ◌≡◌ {A = ℕ} 0 1 = cc in omega arith)

pub not_so : (b : Bool) → (b ≡ true → ⊥) → b ≡ false
not_so true n = absurd (n refl)
not_so false n = refl

-- A live job that begins is live.
pub begins_live : (row : Row) (st : Standing) → is_absent st ≡ false → is_absent (begins row st) ≡ false
begins_live row Absent e = true_not_false true refl e
begins_live row Waiting e = go (eqb (memory_of row) 0)
  where
    go : (b : Bool) → is_absent (pick b (Computation (computation_of row)) (Memory (memory_of row))) ≡ false
    go true = refl
    go false = refl
begins_live row (Memory left) e = refl
begins_live row (Computation left) e = refl

-- The token is nothing to a job that is not in memory.
pub steps_any : (row : Row) (a b : Bool) (st : Standing) → (is_memory st ≡ true → a ≡ b) → steps row a st ≡ steps row b st
steps_any row a b Absent h = refl
steps_any row a b Waiting h = refl
steps_any row a b (Memory left) h = ap (λ (t : Bool). steps row t (Memory left)) (h refl)
steps_any row a b (Computation left) h = refl

-- A turn in which the job completes, and one in which it goes on.
module _ (k : ℕ) (row : Row) (job : Job) (free : Bool) (clock : ℕ) (live : is_absent job.standing ≡ false) where
  pub turn_done : is_absent (after_in row job free) ≡ true → turn_of k row job free clock ≡ record { job = finished clock job; hand = None; token = token_in row job free }
  unfolding turn_of
  turn_done h = simp (begins_live row job.standing live, h)

  pub turn_on : is_absent (after_in row job free) ≡ false → turn_of k row job free clock ≡ record { job = stand_as job (after_in row job free); hand = Some k; token = token_in row job free }
  unfolding turn_of
  turn_on h = simp (begins_live row job.standing live, h)

-- `if let` tells the branch that it does not take only which variants are left, by their numbers.
pub not_waiting : (row : Row) (st : Standing) → OneOf (0 ∷ 2 ∷ 3 ∷ []) (tag_of the_type st) → st ≡ begins row st
not_waiting row Absent k = refl
not_waiting row Waiting k = ⊎_elim (λ e. absurd (omega (arith, e))) (⊎_elim (λ e. absurd (omega (arith, e))) (λ e. absurd (omega (arith, e)))) k
not_waiting row (Memory left) k = refl
not_waiting row (Computation left) k = refl

pub in_no_phase : (st : Standing) → OneOf (0 ∷ 1 ∷ 3 ∷ []) (tag_of the_type st) → OneOf (0 ∷ 1 ∷ 2 ∷ []) (tag_of the_type st) → (st ≡ Absent) ⊎ (st ≡ Waiting)
in_no_phase Absent k m = inl refl
in_no_phase Waiting k m = inr refl
in_no_phase (Memory left) k m = ⊎_elim (λ e. absurd (omega (arith, e))) (⊎_elim (λ e. absurd (omega (arith, e))) (λ e. absurd (omega (arith, e)))) k
in_no_phase (Computation left) k m = ⊎_elim (λ e. absurd (omega (arith, e))) (⊎_elim (λ e. absurd (omega (arith, e))) (λ e. absurd (omega (arith, e)))) m
