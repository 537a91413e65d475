-- A window opens at a quiet snapshot, and a release keeps it.
use Prim.Native.Nat.{ℕ, zero, suc, ◌+◌, ◌≤◌, ◌<◌}
use mathlib.Core.Path.{◌≡◌, sym, subst, ap}
use native.Mathlib.Nat.{le_refl}
use native.Mathlib.Omega.{arith}
use native.Mathlib.Decide.{ℕ_discrete}
use Rattle.theory.specs.System.{System}
use Rattle.theory.specs.Snapshot.{Snapshot}
use Rattle.theory.specs.Steps.{Releases}
use Rattle.theory.specs.Reachable.{Reachable}
use Rattle.theory.specs.Equations.{start_demand}
use Rattle.theory.proofs.Ranks.{no_zero}
use Rattle.theory.proofs.Orderly.{Orderly, orderly}
use Rattle.theory.proofs.Done.{NothingDone, release_does_nothing}
use Rattle.theory.proofs.Since.{Released, Since, since_itself, since_still, since_release}
use Rattle.theory.proofs.Window.{Level, Quiet, Span, NotPast, Window}
use Rattle.theory.proofs.Pending.{pending_own, progress_kept}
use Rattle.theory.proofs.Demands.{next_instance}

module _ (sys : System) (i : ℕ) (v : Level sys i) where
  pub window_opens : (s : Snapshot) → Reachable sys s → Quiet sys i s → Window sys i v.accepted s
  window_opens s r q =
      record {
        opened = s;
        ticks = 0;
        span =
            record {
              began = r;
              quiet = q;
              clock = omega arith;
              since = λ j p. since_itself sys s j;
              lower = λ j p l. le_refl _;
              busy = omega arith;
            };
        short = v.accepted.busy_some;
        next = λ k e z f. omega arith;
        waiting = λ k e h l z f. omega arith;
        in_hand = λ k e h c. absurd (omega (arith, ((orderly sys r).row i v.below).hand_part, pending_own sys i v.below s));
      }

  module _ (j : ℕ) (s t : Snapshot) (o : Orderly sys s) (n : Orderly sys t)
      (r : Releases sys j s t) (w : Window sys i v.accepted s) where
    abbrev u : Snapshot
    u = w.opened

    abbrev x : ℕ
    x = w.ticks

    idle : (k : ℕ) → k < sys.rows → NothingDone sys s t k
    idle = release_does_nothing sys j r o n

    not_taken : (k : ℕ) → k < sys.rows → Dec (k ≡ j) → t.in_hand k ≤ s.in_hand k
    not_taken k p (yes e) = omega (arith, ap t.in_hand e)
    not_taken k p (no d) = omega (arith, (r.others k p d).in_hand)

    span : Span sys i u t x
    span =
        record {
          began = w.span.began;
          quiet = w.span.quiet;
          clock = omega arith;
          since = λ k p. since k p (ℕ_discrete k j);
          lower = λ k p l. omega (arith, w.span.lower k p l, idle k p, not_taken k p (ℕ_discrete k j));
          busy = omega (arith, progress_kept sys i v.below s t (λ k p. omega (arith, idle k p)) (λ k p. omega (arith, idle k p)));
        }
      where
        since : (k : ℕ) → k < sys.rows → Dec (k ≡ j) → Since sys u t x k
        since k p (yes e) =
            subst (Since sys u t x) (sym e) (since_release sys u s x j (w.span.since j r.below) t (omega arith) r)
        since k p (no d) =
            let c = r.others k p d in
            since_still sys u s x k (w.span.since k p) t c.released c.last c.work_left (idle k p).memory

    -- Row i itself is released: its new job waits, and `next` spoke of it.
    released_itself : i ≡ j → Window sys i v.accepted t
    released_itself e =
        record {
          opened = u;
          ticks = x;
          span = span;
          short = w.short;
          next = next;
          waiting = λ q c h l. w.next q (omega (arith, count));
          in_hand = λ q c h counts. no_zero h (rw e r.in_hand);
        }
      where
        count : t.released i ≡ s.released i + 1
        count = rw e r.released

        next : (k : ℕ) → Released u t i k → NotPast (start_demand sys i v.accepted.blocking k) x
        next zero c z f = omega (arith, count, (w.span.since i v.below).count)
        next (suc k) c z f = w.next k (omega (arith, count)) z (omega (arith, next_instance sys i v.accepted.blocking k z))

    -- Another row is released: nothing of row i changes.
    released_other : (i ≡ j → ⊥) → Window sys i v.accepted t
    released_other d =
        let c = r.others i v.below d in
        record {
          opened = u;
          ticks = x;
          span = span;
          short = w.short;
          next = λ k e. w.next k (omega arith);
          waiting = λ q e h l. w.waiting q (omega arith) (omega arith) (omega arith);
          in_hand = λ q e h counts.
              let b = w.in_hand q (omega arith) (omega arith) counts in
              record { higher = λ k p m. omega (arith, b.higher k p m, idle k p); fits = omega arith };
        }

    pub window_released : Dec (i ≡ j) → Window sys i v.accepted t
    window_released (yes e) = released_itself e
    window_released (no d) = released_other d
