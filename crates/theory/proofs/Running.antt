-- Rules 2 to 5 of a tick keep the window, where something is pending before and after.
use Prim.Native.Nat.{ℕ, suc, ◌+◌, ◌≤◌, ◌<◌}
use mathlib.Core.Path.{◌≡◌, subst}
use mathlib.Core.Logic.{◌⊎◌, inl, inr}
use native.Mathlib.Omega.{arith}
use Rattle.laws.specs.RoundingLaws.{split}
use Rattle.laws.specs.SumsWhereLaws.{where_at}
use Rattle.theory.specs.System.{System, Higher, lower, sum_lower}
use Rattle.theory.specs.Snapshot.{Snapshot}
use Rattle.theory.specs.Steps.{Holder, AtWork, Moves, rests, works, stands, Stands, RunsRow, Runs}
use Rattle.theory.specs.Equations.{brought_up_to, start_demand, memory_demand, busy_demand}
use Rattle.theory.specs.Accepted.{Instance}
use Rattle.theory.proofs.Ranks.{no_zero, tests_lower, Order, before, same, after, order}
use Rattle.theory.proofs.Orderly.{Orderly}
use Rattle.theory.proofs.Done.{work_done, Traded, traded, Ran, ran}
use Rattle.theory.proofs.Since.{Released, since_on}
use Rattle.theory.proofs.Window.{Level, pending, progress, Span, NotPast, not_past_next, InHand, Window}
use Rattle.theory.proofs.Pending.{live, pending_own, pending_higher, progress_above, progress_own}
use Rattle.theory.proofs.Demands.{interference_rises, next_instance}
use Rattle.theory.proofs.Accounting.{account_any, account_ticked, account_in_hand}

module _ (sys : System) (i : ℕ) (v : Level sys i) (s t : Snapshot) (o : Orderly sys s) (n : Orderly sys t)
    (at_work : AtWork sys s) (h : Runs sys s t) (some : 1 ≤ pending sys i s) (w : Window sys i v.accepted s) where
  abbrev u : Snapshot
  u = w.opened

  abbrev x : ℕ
  x = w.ticks

  abbrev B : ℕ
  B = v.accepted.blocking

  holder : Holder sys s (sys.processor i)
  holder =
      let a = live sys i v.below s some in
      rw (← a.processor) (at_work a.row a.below a.live)

  did : (k : ℕ) → k < sys.rows → Ran sys s t k
  did = ran sys h o n

  trade : (k : ℕ) → k < sys.rows → Traded sys s t k
  trade k p = traded sys k (o.row k p) (n.row k p) (h.row k p).released

  -- Each tick brings progress: the row in hand works, or a row of a higher-ranked processor has the token.
  more : progress sys i s + 1 ≤ progress sys i t
  more = go (h.row holder.row holder.below).moves
    where
      go : Moves sys s t holder.row → progress sys i s + 1 ≤ progress sys i t
      go (rests m) = no_zero holder.held m.before
      go (works m) =
          progress_own sys i v.below s t (λ k p. (did k p).work) (λ k p. (did k p).memory)
          holder.row holder.below holder.processor (omega (arith, (trade holder.row holder.below).work))
      go (stands m) =
          progress_above sys i v.below s t (λ k p. (did k p).work) (λ k p. (did k p).memory)
          m.other m.below (omega (arith, holder.processor)) (omega (arith, (trade m.other m.below).memory))

  span : Span sys i u t (x + 1)
  span =
      record {
        began = w.span.began;
        quiet = w.span.quiet;
        clock = omega arith;
        since = λ k p.
            let r = h.row k p in
            since_on sys u s x k (w.span.since k p) t 1 r.released r.last (did k p).left (did k p).memory_one;
        lower = λ k p l. omega (arith, w.span.lower k p l, (did k p).in_hand);
        busy = omega (arith, more);
      }

  own : RunsRow sys s t i
  own = h.row i v.below

  -- The window is shorter than the busy length: at L the accounting would leave nothing pending.
  short : 1 ≤ pending sys i t → x + 1 < v.accepted.busy_length
  short left = go (split v.accepted.busy_length (x + 1))
    where
      before_now : (j : ℕ) → j < sys.rows → 1 ≤ t.released j → t.last j < t.clock
      before_now j p l = let r = h.row j p in omega (arith, (o.row j p).past (omega arith))

      full : x + 1 ≡ v.accepted.busy_length → ⊥
      full e =
          let busy : busy_demand sys i B (x + 1) ≤ x + 1 = rw e v.accepted.busy in
          omega (arith, account_ticked sys i v u t (x + 1) n span before_now)

      go : (v.accepted.busy_length ≤ x + 1) ⊎ (x + 1 < v.accepted.busy_length) → x + 1 < v.accepted.busy_length
      go (inl p) = absurd (full (omega arith))
      go (inr p) = p

  -- While something is pending, the start of an instance released now lies ahead.
  next : (k : ℕ) → Released u s i k → NotPast (start_demand sys i B k) (x + 1)
  next k e =
      let account = account_any sys i v u s x o w.span k e in
      not_past_next (start_demand sys i B k) x (omega arith) (w.next k e)

  -- While row i waits, another row of its processor is in hand,
  other_held : s.in_hand i ≡ 0 → s.work_left i + 1 ≤ pending sys i s + sum_lower sys i s.in_hand
  other_held z = go (order holder.row i)
    where
      go : Order holder.row i → s.work_left i + 1 ≤ pending sys i s + sum_lower sys i s.in_hand
      go (before l) =
          omega (
            arith,
            holder.held,
            (o.row holder.row holder.below).hand_part,
            pending_higher sys i v.below s holder.row holder.below (holder.processor, l),
          )
      go (same l) = no_zero (subst (λ k. 1 ≤ s.in_hand k) l holder.held) z
      go (after l) =
          omega (
            arith,
            holder.held,
            pending_own sys i v.below s,
            where_at (lower sys i) s.in_hand sys.rows holder.row holder.below
                (tests_lower sys i holder.row (holder.processor, l)),
          )

  -- so its start lies ahead.
  waiting : (q : ℕ) → Released u s i (suc q) → t.in_hand i ≡ 0 → 1 ≤ t.work_left i → Moves sys s t i
      → NotPast (start_demand sys i B q) (x + 1)
  waiting q e z l (works m) = no_zero l (omega arith)
  waiting q e z l (stands m) = no_zero m.before (omega arith)
  waiting q e z l (rests m) =
      let account = account_any sys i v u s x o w.span (suc q) e in
      let whole = (o.row i v.below).waiting m.before (omega arith) in
      not_past_next (start_demand sys i B q) x
      (omega (arith, next_instance sys i B q x, other_held m.before))
      (w.waiting q e m.before (omega arith))

  -- While row i is in hand no other row of its processor moves.
  still : 1 ≤ s.in_hand i → (k : ℕ) → k < sys.rows → Higher sys i k → Moves sys s t k → work_done sys t k ≡ work_done sys s k
  still l k p c (rests m) = omega (arith, (trade k p).work)
  still l k p c (works m) = omega (arith, o.one k i p v.below c.0 m.before l)
  still l k p c (stands m) = omega (arith, o.one k i p v.below c.0 m.before l)

  module _ (q : ℕ) (inst : Instance sys i B q) (e : Released u t i (suc q)) (was : 1 ≤ s.in_hand i → InHand sys i inst u s x) where
    higher : 1 ≤ s.in_hand i → (k : ℕ) → k < sys.rows → Higher sys i k → work_done sys t k ≤ work_done sys u k + brought_up_to sys inst.start k
    higher l k p c = omega (arith, (was l).higher k p c, still l k p c (h.row k p).moves)

    -- It stands without the token: the accounting, with the interference up to its memory end.
    stands_fits : Stands sys s t i → x + 1 + t.work_left i ≤ inst.memory_end + sys.computation i
    unfolding memory_demand
    stands_fits m =
        let b = was m.before in
        let not_ended : x + 1 ≤ inst.memory_end = omega (arith, (o.row i v.below).in_memory m.in_memory) in
        let account = account_in_hand sys i v u t (x + 1) n span q inst.start e (higher m.before) in
        omega (arith, inst.ends, interference_rises sys i not_ended)

    in_hand : 1 ≤ t.in_hand i → Moves sys s t i → InHand sys i inst u t (x + 1)
    in_hand l (rests m) = no_zero l m.after
    in_hand l (works m) = record { higher = higher m.before; fits = omega (arith, (was m.before).fits) }
    in_hand l (stands m) = record { higher = higher m.before; fits = stands_fits m }

  pub window_ran : 1 ≤ pending sys i t → Window sys i v.accepted t
  window_ran left =
      record {
        opened = u;
        ticks = x + 1;
        span = span;
        short = short left;
        next = λ k e. next k (omega (arith, own.released));
        waiting = λ q e z l. waiting q (omega (arith, own.released)) z l own.moves;
        in_hand = λ q e l c.
            in_hand q (v.accepted.instance q c) e (λ g. w.in_hand q (omega (arith, own.released)) g c) l own.moves;
      }
