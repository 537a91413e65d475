-- The instances of row i in its window: each is one that the analysis has looked at, and one that starts in time ends in time.
use Prim.Native.Nat.{ℕ, zero, suc, ◌+◌, ◌-◌, ◌*◌, ◌≤◌, ◌<◌}
use mathlib.Core.Path.{◌≡◌, refl, ap}
use mathlib.Core.Logic.{◌⊎◌, inl, inr}
use native.Mathlib.Omega.{arith}
use Rattle.laws.specs.Rounding.{up}
use Rattle.laws.specs.RoundingLaws.{split, le_up}
use Rattle.theory.specs.System.{System}
use Rattle.theory.specs.Snapshot.{Snapshot}
use Rattle.theory.specs.Equations.{start_demand, memory_demand}
use Rattle.theory.specs.Accepted.{Instance, AcceptedRow, InTime}
use Rattle.theory.proofs.Orderly.{Orderly}
use Rattle.theory.proofs.Since.{Released}
use Rattle.theory.proofs.Window.{Level, Span, NotPast, Window}
use Rattle.theory.proofs.Pending.{pending_own}
use Rattle.theory.proofs.Demands.{interference_rises, ahead_rises}

module _ (sys : System) (i : ℕ) (v : Level sys i) where
  abbrev a : AcceptedRow sys i
  a = v.accepted

  -- The instances that the analysis has looked at.
  abbrev pub Counted : ℕ → Type 0
  Counted q = q < up a.busy_length (sys.period i)

  -- A live job of row i was released in the window: it is some instance q.
  pub instance_of : (u s : Snapshot) (x : ℕ) → Span sys i u s x → 1 ≤ s.work_left i → (q : ℕ) × Released u s i (suc q)
  instance_of u s x w l = go (w.since i v.below).releases refl
    where
      go : (k : ℕ) → (w.since i v.below).releases ≡ k → (q : ℕ) × Released u s i (suc q)
      go zero e = absurd (omega (arith, ((w.since i v.below).none e).1, pending_own sys i v.below u))
      go (suc q) e = (q, omega (arith, (w.since i v.below).count))

  -- Instance q was released at least q periods after u,
  pub released_after : (u s : Snapshot) (x q : ℕ) → Span sys i u s x → Released u s i (suc q) → u.clock + q * sys.period i ≤ s.last i
  released_after u s x q w e =
      let h = w.since i v.below in
      let k : h.releases ≡ suc q = omega arith in
      omega (arith, h.spaced (omega arith), ap (λ z. z * sys.period i) k)

  -- so it is one of those that the busy length holds.
  pub counted : (u s : Snapshot) (x q : ℕ) → Orderly sys s → Span sys i u s x → x < a.busy_length → Released u s i (suc q) → Counted q
  counted u s x q o w l e =
      le_up (suc q) a.busy_length (sys.period i) (v.period_some i v.below)
      (omega (arith, released_after u s x q w e, (o.row i v.below).past (omega arith)))

  -- Where x has not passed the start of instance q, its whole memory phase still fits before g.
  pub starts_in_time : (x q : ℕ) (n : Instance sys i a.blocking q) → NotPast (start_demand sys i a.blocking q) x
      → (x ≤ n.start) × (x + sys.memory i ≤ n.memory_end)
  unfolding start_demand memory_demand
  starts_in_time x q n not-past = (by_start, go (split begun n.start))
    where
      by_start : x ≤ n.start
      by_start = not-past n.start n.starts

      begun : ℕ
      begun = n.memory_end - sys.memory i

      not_raised : begun ≤ n.start → start_demand sys i a.blocking q begun ≤ begun
      not_raised h =
          let rises = interference_rises sys i {x = begun} {z = n.memory_end} (omega arith) in
          omega (arith, n.ends, ahead_rises sys i h a.blocking q)

      go : (begun ≤ n.start) ⊎ (n.start < begun) → x + sys.memory i ≤ n.memory_end
      go (inl h) = omega (arith, n.ends, not-past begun (not_raised h))
      go (inr h) = omega (arith, by_start)

  -- What the window says of a live job: it ends within the bound.
  pub window_in_time : (s : Snapshot) → Orderly sys s → Window sys i a s → InTime sys i s
  window_in_time s o w l = go (split (s.in_hand i) 0)
    where
      job : (q : ℕ) × Released w.opened s i (suc q)
      job = instance_of w.opened s w.ticks w.span l

      q : ℕ
      q = job.0

      c : Counted q
      c = counted w.opened s w.ticks q o w.span w.short job.1

      n : Instance sys i a.blocking q
      n = a.instance q c

      after : w.opened.clock + q * sys.period i ≤ s.last i
      after = released_after w.opened s w.ticks q w.span job.1

      go : (s.in_hand i ≤ 0) ⊎ (0 < s.in_hand i) → s.clock + s.work_left i ≤ s.last i + sys.bound i
      go (inl z) =
          let begun = starts_in_time w.ticks q n (w.waiting q job.1 (omega arith) l) in
          omega (arith, after, n.finishes, (o.row i v.below).work_most)
      go (inr p) = omega (arith, after, n.finishes, (w.in_hand q job.1 p c).fits)
