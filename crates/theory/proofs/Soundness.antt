-- The theorem: where every row is accepted, every job ends within its row's bound. And what follows from it.
use Prim.Native.Nat.{ℕ, zero, suc, ◌+◌, ◌≤◌, ◌<◌}
use mathlib.Core.Path.{◌≡◌}
use mathlib.Core.Logic.{◌⊎◌, inl, inr}
use native.Mathlib.Nat.{le_refl}
use native.Mathlib.Omega.{arith}
use Rattle.laws.specs.RoundingLaws.{split}
use Rattle.theory.specs.System.{System, work}
use Rattle.theory.specs.Snapshot.{Snapshot}
use Rattle.theory.specs.Steps.{Takes, Runs}
use Rattle.theory.specs.Reachable.{Reachable}
use Rattle.theory.specs.Accepted.{AcceptedSystem, InTime}
use Rattle.theory.proofs.Orderly.{orderly}
use Rattle.theory.proofs.Window.{Settled}
use Rattle.theory.proofs.Demands.{work_within_bound}
use Rattle.theory.proofs.Invariant.{row_in_time}

module _ (sys : System) (accepted : AcceptedSystem sys) where
  -- By induction on the processor: the rows of the processors before p.
  settled : (p i : ℕ) → i < sys.rows → sys.processor i < p → 1 ≤ work sys i → Settled sys i
  settled zero i l h some = absurd (omega arith)
  settled (suc p) i l h some =
      let row = accepted.row i l some in
      record {
        work_fits = work_within_bound sys i (accepted.period_some i l) row;
        bound_fits = row.bound_most;
        in_time =
            row_in_time sys i
            (record { below = l; accepted = row; period_some = accepted.period_some; above = λ j q a. settled p j q (omega arith) });
      }

  -- A live row has something to do.
  settled_live : (s : Snapshot) → Reachable sys s → (i : ℕ) → i < sys.rows → 1 ≤ s.work_left i → Settled sys i
  settled_live s r i l live =
      settled (suc (sys.processor i)) i l (le_refl (suc (sys.processor i))) (omega (arith, ((orderly sys r).row i l).work_most))

  -- What a live job has left to do fits before its row's bound.
  pub sound : (s : Snapshot) → Reachable sys s → (i : ℕ) → i < sys.rows → InTime sys i s
  sound s r i l live = (settled_live s r i l live).in_time s r live

  -- Once the bound has passed since its release, a job is finished.
  pub finished : (s : Snapshot) → Reachable sys s → (i : ℕ) → i < sys.rows → s.last i + sys.bound i ≤ s.clock → s.work_left i ≡ 0
  finished s r i l late = go (split (s.work_left i) 0)
    where
      go : (s.work_left i ≤ 0) ⊎ (0 < s.work_left i) → s.work_left i ≡ 0
      go (inl none) = omega arith
      go (inr live) = absurd (omega (arith, sound s r i l live))

  -- A release that isn't early never finds its elder live.
  pub never_live : (s : Snapshot) → Reachable sys s → (i : ℕ) → i < sys.rows
      → (1 ≤ s.released i → s.last i + sys.period i ≤ s.clock) → s.work_left i ≡ 0
  never_live s r i l not_early = go (split (s.work_left i) 0)
    where
      go : (s.work_left i ≤ 0) ⊎ (0 < s.work_left i) → s.work_left i ≡ 0
      go (inl none) = omega arith
      go (inr live) = finished s r i l (omega (arith, (settled_live s r i l live).bound_fits, not_early (((orderly sys r).row i l).ever live)))

  -- A job that is live in a tick, and so any that completes in it, is within its bound at the clock after the tick.
  pub completes : (s m t : Snapshot) → Reachable sys s → Takes sys s m → Runs sys m t → (i : ℕ) → i < sys.rows
      → 1 ≤ m.work_left i → t.clock ≤ t.last i + sys.bound i
  completes s m t r h g i l live =
      let a = h.row i l in
      let b = g.row i l in
      omega (arith, sound s r i l (omega arith))
