-- The promises, for a well-formed set and bounds that the theory accepts.
use mathlib.Core.Path.{◌≡◌, refl, sym, ap, subst, ◌∙◌}
use mathlib.Core.Bool.{false}
use Prim.Native.Nat.{ℕ, ◌+◌, ◌≤◌, ◌<◌}
use native.Mathlib.Omega.{arith}
use Rattle.sheet.specs.Refusals.{accepts}
use Rattle.sheet.specs.Ranges.{row_in, WellFormed}
use Rattle.sheet.specs.declared.Set.{Set}
use Rattle.sheet.specs.declared.Refusal.{Refusal}
use Rattle.board.specs.declared.State.{State}
use Rattle.board.specs.States.{row_at, job_at, standing_at, is_absent, start_set}
use Rattle.board.specs.Work.{work_left}
use Rattle.board.proofs.Pointwise.{start_set_lem}
use Rattle.board.proofs.Kept.{found_live, release_carried}
use Rattle.board.proofs.Jobs.{live_left}
use Rattle.theory.specs.Accepted.{AcceptedSystem}
use Rattle.theory.proofs.Soundness as soundness
use Rattle.runs.specs.Runs.{first_board, calls}
use Rattle.runs.proofs.OfSets.{row_of_state}
use Rattle.runs.proofs.FirstBoard.{first_rules}
use Rattle.promise.specs.Promises.{Promises}
use Rattle.promise.proofs.Observed.{system_of, observed}
use Rattle.promise.proofs.Reached.{Reached, reached_start, reached_call, reached}
use Rattle.promise.proofs.AnyBoard.{SoundBoard, row_in_time, complete, not_live}

module _ (set : Set) (bound : ℕ → ℕ) (w : WellFormed set) (acc : AcceptedSystem (system_of set bound)) (late : (i : ℕ) → i < set.count → bound i ≤ (row_in set i).deadline) where
  -- A live job ends within its bound, by the theory.
  live_in_time : (s : State) → Reached set bound s → (i : ℕ) → i < set.count → is_absent (standing_at s i) ≡ false
      → s.clock + work_left (row_at s i) (standing_at s i) ≤ (job_at s i).last + bound i
  unfolding system_of observed
  live_in_time s r i l h =
      let o = r.of_set in
      soundness.sound (system_of set bound) acc (observed s) r.reachable i l (live_left s o.shape i (row_of_state o i l) h)

  sound : SoundBoard first_board set bound (Reached set bound)
  sound =
      record { rules = first_rules; kept = reached_call set bound; of_set = λ s r. r.of_set; live = live_in_time; deadline = late }

  pub promises : Promises (start_set set) bound
  promises =
      record {
        in_time = λ cs i l.
            row_in_time first_board set bound (Reached set bound) sound i (subst (λ (x : Set). i < x.count) (start_set_lem set) l) (start_set set) cs (reached_start set bound w) refl;
        complete = λ before i after e enough.
            complete first_board set bound (Reached set bound) sound (calls (start_set set) before) i after (reached set bound w before) (ap accepts e) (omega (arith, enough));
        never_live = λ cs i e.
            let s = calls (start_set set) cs in
            not_live first_board set bound (Reached set bound) sound s i (reached set bound w cs) (found_live s i (ap (λ (x : Refusal). x.number) (sym (release_carried s i)) ∙ e));
      }
