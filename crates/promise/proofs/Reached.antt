-- Every state that calls lead to from a fresh start is of the shape, over the same set, and reachable in the theory.
use mathlib.Core.Path.{◌≡◌, ap, subst, ◌∙◌}
use mathlib.Core.Bool.{Bool}
use mathlib.Core.List.{List}
use Prim.Native.Nat.{ℕ, ◌+◌, ◌<◌}
use native.Mathlib.Omega.{arith}
use Rattle.sheet.specs.Ranges.{WellFormed}
use Rattle.sheet.specs.declared.Set.{Set}
use Rattle.board.specs.declared.Job.{Job}
use Rattle.board.specs.declared.State.{State}
use Rattle.board.specs.States.{no_job, start_set, row_at, job_at}
use Rattle.board.specs.Rules.{taken, has_token, ran}
use Rattle.board.specs.Calls.{released}
use Rattle.board.specs.Work.{work_left, memory_left, live_jobs}
use Rattle.board.proofs.Pointwise.{taken_set, start_job}
use Rattle.board.proofs.Taking.{take_keeps}
use Rattle.theory.specs.Steps.{Releases, Takes, Runs}
use Rattle.theory.specs.Reachable.{Reachable}
use Rattle.theory.specs.Reachable as theory
use Rattle.runs.specs.Runs.{Call, called, first_board, calls}
use Rattle.runs.proofs.Lists.{kept_by_calls}
use Rattle.runs.proofs.Calling.{CallHow, releases, ticks, refused}
use Rattle.runs.proofs.OfSets.{OfSet}
use Rattle.runs.proofs.FirstBoard.{call_how, of_set_call, of_set_start}
use Rattle.promise.proofs.Observed.{system_of, left_in_hand, observed}
use Rattle.promise.proofs.Steps.{release_step, take_step, run_step}

pub record Reached (set : Set) (bound : ℕ → ℕ) (s : State) : Type 0 where
  pub of_set : OfSet set s
  pub reachable : Reachable (system_of set bound) (observed s)

module _ (set : Set) (bound : ℕ → ℕ) where
  no_job_lem : WellFormed set → (number : Job → ℕ) (j : ℕ) → j < set.count → number (job_at (start_set set) j) ≡ number no_job
  no_job_lem w number j l = ap number (start_job set j (omega (arith, l, w.rows_most)))

  pub reached_start : WellFormed set → Reached set bound (start_set set)
  unfolding system_of observed
  reached_start w =
      record {
        of_set = of_set_start set w;
        reachable =
            theory.fresh (record {
              released = no_job_lem w (λ x. x.completed + live_jobs x.standing);
              work_left = λ j. no_job_lem w (λ x. work_left (row_at (start_set set) j) x.standing) j;
              memory_left = λ j. no_job_lem w (λ x. memory_left (row_at (start_set set) j) x.standing) j;
              in_hand = λ j. no_job_lem w (λ x. left_in_hand (row_at (start_set set) j) x.standing) j;
            });
      }

  -- The two halves of a tick.
  taking : (s : State) → OfSet set s → Takes (system_of set bound) (observed s) (observed (taken s))
  taking s o = subst (λ (x : Set). Takes (system_of x bound) (observed s) (observed (taken s))) o.over (take_step s o.shape bound)

  running : (s : State) → OfSet set s → Runs (system_of set bound) (observed (taken s)) (observed (ran (taken s)))
  running s o =
      subst (λ (x : Set). Runs (system_of x bound) (observed (taken s)) (observed (ran (taken s)))) (taken_set s ∙ o.over)
      (run_step (taken s) (take_keeps s o.shape) bound)

  pub reached_call : (s : State) (c : Call) → Reached set bound s → Reached set bound (called s c)
  reached_call s c r = record { of_set = of_set_call set s c o; reachable = go (call_how s c) }
    where
      o : OfSet set s
      o = r.of_set

      go : {c : Call} {a : Bool} {t : State} → CallHow (has_token (taken s)) s c a t → Reachable (system_of set bound) (observed t)
      go (releases {i} m) =
          theory.release i r.reachable
          (subst (λ (x : Set). Releases (system_of x bound) i (observed s) (observed (released s i))) o.over (release_step s o.shape bound i m))
      go (ticks m) = theory.tick r.reachable (taking s o) (running s o)
      go refused = r.reachable

  pub reached : WellFormed set → (cs : List Call) → Reached set bound (calls (start_set set) cs)
  reached w cs = kept_by_calls first_board (Reached set bound) reached_call (start_set set) cs (reached_start w)
