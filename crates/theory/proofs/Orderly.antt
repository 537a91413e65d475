-- What holds of the numbers of every reachable snapshot, whatever the bounds.
use Prim.Native.Nat.{ℕ, ◌+◌, ◌-◌, ◌≤◌, ◌<◌}
use mathlib.Core.Path.{◌≡◌, sym, subst}
use mathlib.Core.Logic.{◌⊎◌, inl, inr}
use native.Mathlib.Omega.{arith}
use native.Mathlib.Decide.{ℕ_discrete}
use Rattle.theory.specs.System.{System, work}
use Rattle.theory.specs.Snapshot.{Snapshot}
use Rattle.theory.specs.Steps.{Unchanged, Releases, Taken, TakesRow, Takes, Moves, rests, works, stands, RunsRow, Runs}
use Rattle.theory.specs.Reachable.{Fresh, Reachable, fresh, release, tick}
use Rattle.theory.proofs.Ranks.{Order, before, same, after, order, no_zero}

-- Of one row: what its job has left, by its standing; and its last release lies back at least as far as its memory ticks since.
pub record OrderlyRow (sys : System) (s : Snapshot) (j : ℕ) : Type 0 where
  pub work_most : s.work_left j ≤ work sys j
  pub memory_most : s.memory_left j ≤ sys.memory j
  pub memory_part : s.memory_left j ≤ s.work_left j
  pub hand_part : s.in_hand j ≤ s.work_left j
  pub waiting : s.in_hand j ≡ 0 → 1 ≤ s.work_left j → s.work_left j ≡ work sys j
  pub in_hand : 1 ≤ s.in_hand j → s.in_hand j ≡ s.work_left j
  pub in_memory : 1 ≤ s.memory_left j → s.work_left j ≡ s.memory_left j + sys.computation j
  pub ever : 1 ≤ s.work_left j → 1 ≤ s.released j
  pub past : 1 ≤ s.released j → s.last j ≤ s.clock
  pub done : 1 ≤ s.released j → s.last j + sys.memory j ≤ s.clock + s.memory_left j

-- Of all: and a processor has at most one row in hand.
pub record Orderly (sys : System) (s : Snapshot) : Type 0 where
  pub row : (j : ℕ) → j < sys.rows → OrderlyRow sys s j
  pub one : (j k : ℕ) → j < sys.rows → k < sys.rows → sys.processor j ≡ sys.processor k → 1 ≤ s.in_hand j → 1 ≤ s.in_hand k → j ≡ k

module _ (sys : System) where
  orderly_fresh : {s : Snapshot} → Fresh sys s → Orderly sys s
  orderly_fresh {s} f = record { row = row; one = λ j k p q e h g. no_zero h (f.in_hand j p) }
    where
      row : (j : ℕ) → j < sys.rows → OrderlyRow sys s j
      row j p =
          let r = f.released j p in
          let w = f.work_left j p in
          let m = f.memory_left j p in
          let h = f.in_hand j p in
          record {
            work_most = omega arith;
            memory_most = omega arith;
            memory_part = omega arith;
            hand_part = omega arith;
            waiting = λ a b. omega arith;
            in_hand = λ a. omega arith;
            in_memory = λ a. omega arith;
            ever = λ a. omega arith;
            past = λ a. omega arith;
            done = λ a. omega arith;
          }

  -- a row that stays as it is, while the clock goes on
  orderly_same : {s t : Snapshot} (j : ℕ) → s.clock ≤ t.clock → Unchanged s t j → OrderlyRow sys s j → OrderlyRow sys t j
  orderly_same j c u o =
      record {
        work_most = omega arith;
        memory_most = omega arith;
        memory_part = omega arith;
        hand_part = omega arith;
        waiting = λ a b. omega (arith, o.waiting (omega arith) (omega arith));
        in_hand = λ a. omega (arith, o.in_hand (omega arith));
        in_memory = λ a. omega (arith, o.in_memory (omega arith));
        ever = λ a. omega (arith, o.ever (omega arith));
        past = λ a. omega (arith, o.past (omega arith));
        done = λ a. omega (arith, o.done (omega arith));
      }

  -- a row that is in hand after d ticks of work, 0 or more
  orderly_held : {s t : Snapshot} (j d : ℕ) → s.clock + d ≤ t.clock → t.released j ≡ s.released j → t.last j ≡ s.last j
      → s.work_left j ≡ t.work_left j + d → t.memory_left j ≡ s.memory_left j - d → t.in_hand j ≡ t.work_left j → OrderlyRow sys s j → OrderlyRow sys t j
  orderly_held j d c r l w m h o =
      record {
        work_most = omega arith;
        memory_most = omega arith;
        memory_part = omega arith;
        hand_part = omega arith;
        waiting = λ a b. omega arith;
        in_hand = λ a. h;
        in_memory = λ a. omega (arith, o.in_memory (omega arith));
        ever = λ a. omega (arith, o.ever (omega arith));
        past = λ a. omega (arith, o.past (omega arith));
        done = λ a. omega (arith, o.done (omega arith));
      }

  orderly_release : {s t : Snapshot} (j : ℕ) → Releases sys j s t → Orderly sys s → Orderly sys t
  orderly_release {s} {t} j r o =
      record {
        row = λ k p. row k p (ℕ_discrete k j);
        one = λ k l p q e h g. o.one k l p q e (was k p (ℕ_discrete k j) h) (was l q (ℕ_discrete l j) g);
      }
    where
      was : (k : ℕ) → k < sys.rows → Dec (k ≡ j) → 1 ≤ t.in_hand k → 1 ≤ s.in_hand k
      was k p (yes e) h = no_zero (subst (λ i. 1 ≤ t.in_hand i) e h) r.in_hand
      was k p (no d) h = omega (arith, (r.others k p d).in_hand)

      this : OrderlyRow sys t j
      this =
          record {
            work_most = omega arith;
            memory_most = omega arith;
            memory_part = omega arith;
            hand_part = omega arith;
            waiting = λ a b. omega arith;
            in_hand = λ a. omega arith;
            in_memory = λ a. omega arith;
            ever = λ a. omega arith;
            past = λ a. omega arith;
            done = λ a. omega arith;
          }

      row : (k : ℕ) → k < sys.rows → Dec (k ≡ j) → OrderlyRow sys t k
      row k p (yes e) = subst (OrderlyRow sys t) (sym e) this
      row k p (no d) = orderly_same k (omega arith) (r.others k p d) (o.row k p)

  pub orderly_takes : {s t : Snapshot} → Takes sys s t → Orderly sys s → Orderly sys t
  orderly_takes {s} {t} x o =
      record {
        row = λ j p. row j (x.row j p) (x.row j p).hand (o.row j p);
        one = λ j k p q e h g. one j k p q e h g (x.row j p).hand (x.row k q).hand;
      }
    where
      row : (j : ℕ) → TakesRow sys s t j → (t.in_hand j ≡ s.in_hand j) ⊎ Taken sys s t j → OrderlyRow sys s j → OrderlyRow sys t j
      row j h (inl e) v =
          orderly_same j (omega arith)
          (record { released = h.released; last = h.last; work_left = h.work_left; memory_left = h.memory_left; in_hand = e })
          v
      row j h (inr n) v = orderly_held j 0 (omega arith) h.released h.last (omega arith) (omega arith) (omega arith) v

      one : (j k : ℕ) → j < sys.rows → k < sys.rows → sys.processor j ≡ sys.processor k → 1 ≤ t.in_hand j → 1 ≤ t.in_hand k
          → (t.in_hand j ≡ s.in_hand j) ⊎ Taken sys s t j → (t.in_hand k ≡ s.in_hand k) ⊎ Taken sys s t k → j ≡ k
      one j k p q e h g (inl a) (inl b) = o.one j k p q e (omega arith) (omega arith)
      one j k p q e h g (inl a) (inr b) = no_zero {a = s.in_hand j} (omega arith) (b.free j p e)
      one j k p q e h g (inr a) (inl b) = no_zero {a = s.in_hand k} (omega arith) (a.free k q (sym e))
      one j k p q e h g (inr a) (inr b) = go (order j k)
        where
          go : Order j k → j ≡ k
          go (before l) = no_zero a.live (b.first j l e)
          go (same l) = l
          go (after l) = no_zero b.live (a.first k l (sym e))

  pub orderly_runs : {s t : Snapshot} → Runs sys s t → Orderly sys s → Orderly sys t
  orderly_runs {s} {t} x o =
      record {
        row = λ j p. row j (x.row j p) (x.row j p).moves (o.row j p);
        one = λ j k p q e h g. o.one j k p q e (was j h (x.row j p).moves) (was k g (x.row k q).moves);
      }
    where
      was : (j : ℕ) → 1 ≤ t.in_hand j → Moves sys s t j → 1 ≤ s.in_hand j
      was j h (rests m) = no_zero h m.after
      was j h (works m) = m.before
      was j h (stands m) = m.before

      row : (j : ℕ) → RunsRow sys s t j → Moves sys s t j → OrderlyRow sys s j → OrderlyRow sys t j
      row j h (rests m) v =
          orderly_same j (omega arith)
          (record { released = h.released; last = h.last; work_left = m.work_left; memory_left = m.memory_left; in_hand = omega arith })
          v
      row j h (stands m) v =
          orderly_same j (omega arith)
          (record { released = h.released; last = h.last; work_left = m.work_left; memory_left = m.memory_left; in_hand = m.after })
          v
      row j h (works m) v = orderly_held j 1 (omega arith) h.released h.last m.work_left m.memory_left m.after v

  pub orderly : {s : Snapshot} → Reachable sys s → Orderly sys s
  orderly (fresh f) = orderly_fresh f
  orderly (release j r h) = orderly_release j h (orderly r)
  orderly (tick r h g) = orderly_runs g (orderly_takes h (orderly r))
