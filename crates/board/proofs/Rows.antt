-- Rows of a state of the shape: where they stand, and that a row that is not in hand stays as it is.
use Prim.Native.Nat.{ℕ, ◌≤◌, ◌<◌}
use mathlib.Core.Path.{◌≡◌, refl, sym, ap, subst}
use mathlib.Core.Bool.{Bool, false}
use native.Mathlib.Omega.{arith}
use native.Mathlib.Decide.{dec_lt}
use borrow.Author.Tests.{ne_eqb}
use Rattle.std.specs.Prelude.{Option, Some, None}
use Rattle.laws.specs.Choice.{pick}
use Rattle.laws.specs.ChoiceLaws.{true_not_false}
use Rattle.sheet.specs.Ranges.{most_processors, most_rows}
use Rattle.sheet.specs.declared.Row.{Row}
use Rattle.board.specs.declared.Job.{Job}
use Rattle.board.specs.declared.State.{State}
use Rattle.board.specs.declared.Standing.{Standing}
use Rattle.board.specs.declared.Standing.TheVariants.{Absent, Waiting, Memory, Computation}
use Rattle.board.specs.States.{row_at, job_at, hand_at, processor_at, standing_at, holds, in_hand}
use Rattle.board.specs.Rules.{stand_as, steps, finishes, finished, completes_by, job_run_by}
use Rattle.board.proofs.ShapeFacts.{Stands, OwnHand, Shaped, set_well_formed}

-- What rules 3 and 4 make of a job at a standing.
abbrev pub job_after : ℕ → Row → Bool → Job → Standing → Job
job_after t row token job st = pick (finishes row token st) (finished t (stand_as job st)) (stand_as job (steps row token st))

still : (t : ℕ) (row : Row) (token : Bool) (job : Job) (st : Standing) → Stands row false st → (job_after t row token job st ≡ stand_as job st) × (finishes row token st ≡ false)
still t row token job Absent f = (refl, refl)
still t row token job Waiting f = (refl, refl)
still t row token job (Memory left) f = true_not_false false f.0 refl
still t row token job (Computation left) f = true_not_false false f.0 refl

module _ (s : State) (k : Shaped s) where
  -- every row stands on a processor of the board, one past n on processor 0
  pub on_board : (i : ℕ) → i < most_rows → processor_at s i < most_processors
  on_board i m = go (dec_lt i s.set.count)
    where
      go : Dec (i < s.set.count) → processor_at s i < most_processors
      go (yes l) = let w = set_well_formed s k in omega (arith, (w.row i l).below, w.processors_most)
      go (no l) = let e = ap (λ (r : Row). r.processor) (k.past i (omega arith) m).0 in omega arith

  -- a row that is not in hand stays as it is in rules 3 to 5, and does not complete
  pub not_in_hand : (has : ℕ → Bool) (i : ℕ) → i < most_rows → in_hand s i ≡ false → (job_run_by has s i ≡ job_at s i) × (completes_by has s i ≡ false)
  unfolding job_run_by completes_by
  not_in_hand has i m e = still s.clock (row_at s i) (has i) (job_at s i) (standing_at s i) (go (dec_lt i s.set.count))
    where
      go : Dec (i < s.set.count) → Stands (row_at s i) false (standing_at s i)
      go (yes l) = subst (λ (b : Bool). Stands (row_at s i) b (standing_at s i)) e (k.row i l).standing
      go (no l) = subst (λ (j : Job). Stands (row_at s i) false j.standing) (sym (k.past i (omega arith) m).1) refl

  -- a row past n is in no hand
  pub past_free : (i : ℕ) → i < most_rows → s.set.count ≤ i → in_hand s i ≡ false
  past_free i m l = go (hand_at s (processor_at s i)) (k.hand (processor_at s i) (on_board i m))
    where
      go : (h : Option ℕ) → OwnHand s.set (processor_at s i) h → holds h i ≡ false
      go None o = refl
      go (Some j) o = ne_eqb j i (λ q. absurd (omega (arith, q, o.0)))
