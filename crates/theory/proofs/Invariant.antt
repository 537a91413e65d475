-- Every reachable snapshot is quiet at row i's level or within a window of row i; so row i is in time.
use Prim.Native.Nat.{ℕ, ◌+◌, ◌≤◌, ◌<◌}
use mathlib.Core.Path.{◌≡◌}
use mathlib.Core.Logic.{◌⊎◌, inl, inr, ⊎_elim}
use native.Mathlib.Omega.{arith}
use native.Mathlib.Decide.{ℕ_discrete}
use Rattle.laws.specs.RoundingLaws.{split}
use Rattle.theory.specs.System.{System}
use Rattle.theory.specs.Snapshot.{Snapshot}
use Rattle.theory.specs.Steps.{Releases, Takes, Runs}
use Rattle.theory.specs.Reachable.{Reachable, fresh, release, tick}
use Rattle.theory.specs.Accepted.{InTime}
use Rattle.theory.proofs.Orderly.{Orderly, orderly, orderly_takes, orderly_runs}
use Rattle.theory.proofs.Done.{ran}
use Rattle.theory.proofs.Window.{Level, pending, Quiet, Window}
use Rattle.theory.proofs.Pending.{pending_own, pending_falls, pending_same, pending_none}
use Rattle.theory.proofs.Instances.{window_in_time}
use Rattle.theory.proofs.Releasing.{window_opens, window_released}
use Rattle.theory.proofs.Taking.{window_taken}
use Rattle.theory.proofs.Running.{window_ran}

module _ (sys : System) (i : ℕ) (v : Level sys i) where
  abbrev Invariant : Snapshot → Type 0
  Invariant s = Quiet sys i s ⊎ Window sys i v.accepted s

  -- A release keeps the window there is, or opens one.
  after_release : {s t : Snapshot} (j : ℕ) → Reachable sys s → Releases sys j s t → Invariant s → Invariant t
  after_release {s} {t} j r h k =
      let w = ⊎_elim (window_opens sys i v s r) (λ w. w) k in
      inr (window_released sys i v j s t (orderly sys r) (orderly sys (release j r h)) h w (ℕ_discrete i j))

  -- A tick keeps a quiet snapshot quiet. A window goes on until a tick leaves nothing pending.
  after_tick : {s m t : Snapshot} → Reachable sys s → Takes sys s m → Runs sys m t → Invariant s → Invariant t
  after_tick {s} {m} {t} r h g k = go k (split (pending sys i s) 0) (split (pending sys i t) 0)
    where
      o : Orderly sys s
      o = orderly sys r

      p : Orderly sys m
      p = orderly_takes sys h o

      q : Orderly sys t
      q = orderly_runs sys g p

      taken : pending sys i m ≡ pending sys i s
      taken = pending_same sys i v.below s m (λ j l. (h.row j l).work_left)

      falls : pending sys i t ≤ pending sys i m
      falls = pending_falls sys i v.below m t (λ j l. (ran sys g p q j l).left)

      go : Invariant s → (pending sys i s ≤ 0) ⊎ (0 < pending sys i s) → (pending sys i t ≤ 0) ⊎ (0 < pending sys i t) → Invariant t
      go k b (inl d) = inl (omega arith)
      go (inl z) b (inr d) = inl (omega (arith, taken, falls))
      go (inr w) (inl b) (inr d) = inl (omega (arith, taken, falls))
      go (inr w) (inr b) (inr d) =
          inr (window_ran sys i v m t p q h.at_work g (omega (arith, taken)) (window_taken sys i v s m o p h b w) d)

  invariant : {s : Snapshot} → Reachable sys s → Invariant s
  invariant (fresh {s} f) = inl (pending_none sys i v.below s f.work_left)
  invariant (release j r h) = after_release j r h (invariant r)
  invariant (tick r h g) = after_tick r h g (invariant r)

  pub row_in_time : (s : Snapshot) → Reachable sys s → InTime sys i s
  row_in_time s r l = go (invariant r)
    where
      go : Invariant s → s.clock + s.work_left i ≤ s.last i + sys.bound i
      go (inl q) = absurd (omega (arith, pending_own sys i v.below s))
      go (inr w) = window_in_time sys i v s (orderly sys r) w l
