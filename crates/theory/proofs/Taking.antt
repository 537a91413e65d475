-- Rule 1 of a tick keeps the window, where something is pending.
use Prim.Native.Nat.{ℕ, suc, ◌+◌, ◌≤◌, ◌<◌}
use mathlib.Core.Path.{◌≡◌, refl, sym, ◌∙◌}
use mathlib.Core.Logic.{◌⊎◌, inl, inr}
use native.Mathlib.Omega.{arith}
use Rattle.theory.specs.System.{System, Higher, Lower}
use Rattle.theory.specs.Snapshot.{Snapshot}
use Rattle.theory.specs.Steps.{Taken, TakesRow, Takes}
use Rattle.theory.specs.Equations.{brought_up_to, start_demand}
use Rattle.theory.specs.Accepted.{Instance}
use Rattle.theory.proofs.Ranks.{no_zero}
use Rattle.theory.proofs.Orderly.{Orderly}
use Rattle.theory.proofs.Done.{work_done, NothingDone, taking_does_nothing}
use Rattle.theory.proofs.Since.{Released, since_still}
use Rattle.theory.proofs.Window.{Level, pending, Span, NotPast, InHand, Window}
use Rattle.theory.proofs.Pending.{live, progress_kept}
use Rattle.theory.proofs.Demands.{brought_up_to_rises}
use Rattle.theory.proofs.Accounting.{higher_up_to}
use Rattle.theory.proofs.Instances.{starts_in_time}

module _ (sys : System) (i : ℕ) (v : Level sys i) (s t : Snapshot) (o : Orderly sys s) (n : Orderly sys t)
    (h : Takes sys s t) (some : 1 ≤ pending sys i s) (w : Window sys i v.accepted s) where
  abbrev u : Snapshot
  u = w.opened

  abbrev x : ℕ
  x = w.ticks

  abbrev B : ℕ
  B = v.accepted.blocking

  idle : (k : ℕ) → k < sys.rows → NothingDone sys s t k
  idle = taking_does_nothing sys h o n

  -- No lower row is taken before the live one.
  lower : (k : ℕ) → k < sys.rows → Lower sys i k → (t.in_hand k ≡ s.in_hand k) ⊎ Taken sys s t k
      → work_done sys t k + t.in_hand k ≤ work_done sys u k + u.in_hand k
  lower k p l (inl e) = omega (arith, w.span.lower k p l, idle k p)
  lower k p l (inr a) =
      let b = live sys i v.below s some in
      no_zero b.live (a.first b.row (omega arith) (b.processor ∙ sym l.0))

  span : Span sys i u t x
  span =
      record {
        began = w.span.began;
        quiet = w.span.quiet;
        clock = omega arith;
        since = λ k p.
            let r = h.row k p in
            since_still sys u s x k (w.span.since k p) t r.released r.last r.work_left (idle k p).memory;
        lower = λ k p l. lower k p l (h.row k p).hand;
        busy = omega (arith, progress_kept sys i v.below s t (λ k p. omega (arith, idle k p)) (λ k p. omega (arith, idle k p)));
      }

  own : TakesRow sys s t i
  own = h.row i v.below

  -- Row i is not taken: it waits on.
  waiting : (q : ℕ) → Released u s i (suc q) → t.in_hand i ≡ 0 → 1 ≤ s.work_left i → (t.in_hand i ≡ s.in_hand i) ⊎ Taken sys s t i
      → NotPast (start_demand sys i B q) x
  waiting q e z l (inl k) = w.waiting q e (omega arith) l
  waiting q e z l (inr a) = no_zero l (omega arith)

  -- Row i is taken: from here on the higher rows stand still, and it has started in time.
  taken : (q : ℕ) (inst : Instance sys i B q) → Released u s i (suc q) → Taken sys s t i → InHand sys i inst u t x
  taken q inst e a = record { higher = higher; fits = omega (arith, begun, (o.row i v.below).work_most, own.work_left) }
    where
      begun : (x ≤ inst.start) × (x + sys.memory i ≤ inst.memory_end)
      begun = starts_in_time sys i v x q inst (w.waiting q e (a.free i v.below refl) a.live)

      higher : (k : ℕ) → k < sys.rows → Higher sys i k → work_done sys t k ≤ work_done sys u k + brought_up_to sys inst.start k
      higher k p l = omega (arith, idle k p, higher_up_to sys i v u s x o w.span k p l, brought_up_to_rises sys i begun.0 k)

  in_hand : (q : ℕ) (inst : Instance sys i B q) → Released u s i (suc q) → (1 ≤ s.in_hand i → InHand sys i inst u s x) → 1 ≤ t.in_hand i
      → (t.in_hand i ≡ s.in_hand i) ⊎ Taken sys s t i → InHand sys i inst u t x
  in_hand q inst e was l (inl k) =
      let b = was (omega arith) in
      record { higher = λ k p m. omega (arith, b.higher k p m, idle k p); fits = omega (arith, own.work_left) }
  in_hand q inst e was l (inr a) = taken q inst e a

  pub window_taken : Window sys i v.accepted t
  window_taken =
      record {
        opened = u;
        ticks = x;
        span = span;
        short = w.short;
        next = λ k e. w.next k (omega (arith, own.released));
        waiting = λ q e z l. waiting q (omega (arith, own.released)) z (omega (arith, own.work_left)) own.hand;
        in_hand = λ q e l c.
            let f : Released u s i (suc q) = omega (arith, own.released) in
            in_hand q (v.accepted.instance q c) f (λ h. w.in_hand q f h c) l own.hand;
      }
