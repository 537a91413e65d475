-- The calls keep the shape, and refused calls change nothing.
use mathlib.Core.Path.{◌≡◌, refl, sym, ap, subst, ◌∙◌}
use mathlib.Core.Bool.{Bool, true, false, ◌&&◌}
use Prim.Native.Nat.{ℕ, ◌+◌, ◌≤◌, ◌<◌}
use native.Mathlib.Omega.{arith}
use native.Mathlib.Decide.{ℕ_discrete}
use lib.Dec.{ltb}
use borrow.Author.Tests.{ltb-false, leb-false, eqb-false, not-false, not-true, eq-eqb, ne_eqb}
use Rattle.std.specs.Prelude.{Option}
use Rattle.laws.specs.ChoiceLaws.{past, passed, given, pick_true, pick_false, true_not_false}
use Rattle.sheet.specs.Refusals.{LIVE, accepted, refused, carried, answered}
use Rattle.sheet.specs.Ranges.{most_rows, row_in, WellFormed}
use Rattle.sheet.specs.declared.Set.{Set}
use Rattle.sheet.specs.declared.Refusal.{Refusal}
use Rattle.sheet.proofs.AnswerLaws.{carried_answer}
use Rattle.sheet.proofs.RoundTrip.{well_formed_taken}
use Rattle.board.specs.declared.State.{State}
use Rattle.board.specs.declared.Ticked.{Ticked}
use Rattle.board.specs.declared.Standing.TheVariants.{Absent}
use Rattle.board.specs.States.{most_clock, row_at, job_at, standing_at, is_absent, holds, in_hand, start_set}
use Rattle.board.specs.Rules.{taken, token_at, token_named, has_token, ran, completed_rows}
use Rattle.board.specs.Calls.{is_early, release_number, waiting_from, released, release_of, tick_number, ticked, unticked, tick_of, said, refused_beat}
use Rattle.board.proofs.ShapeFacts.{Stands, Kept, Shaped, shaped, set_well_formed, absent_facts}
use Rattle.board.proofs.Pointwise.{taken_clock, taken_set, ran_set, released_job, released_other, released_set, start_job, start_hand, start_set_lem, start_clock}
use Rattle.board.proofs.Taking.{take_keeps}
use Rattle.board.proofs.Running.{run_keeps}

-- What an accepted tick says of the state.
pub record MayTick (s : State) : Type 0 where
  pub shape : Shaped s
  pub early : s.clock < most_clock

pub may_tick : (s : State) → tick_number s ≡ 0 → MayTick s
unfolding tick_number
may_tick s h =
    let p1 = past _ _ _ h in
    let p2 = past _ _ _ p1.1 in
    let f = shaped s (not-false _ p1.0) in
    record { shape = f; early = omega (arith, f.clock, eqb-false s.clock most_clock p2.0) }

pub tick_keeps : (s : State) → MayTick s → Shaped (ran (taken s))
tick_keeps s m = run_keeps (has_token (taken s)) (taken s) (take_keeps s m.shape) (rw (taken_clock s) m.early)

-- What an accepted release says of the state.
pub record MayRelease (s : State) (i : ℕ) : Type 0 where
  pub shape : Shaped s
  pub below : i < s.set.count
  pub not_early : (job_at s i).ever ≡ true → (job_at s i).last + (row_at s i).period ≤ s.clock
  pub absent : standing_at s i ≡ Absent

pub not_early_facts : (s : State) (i : ℕ) → is_early s.clock (row_at s i).period (job_at s i) ≡ false → (job_at s i).ever ≡ true → (job_at s i).last + (row_at s i).period ≤ s.clock
not_early_facts s i h e =
    ltb-false s.clock ((job_at s i).last + (row_at s i).period) (sym (ap (λ (b : Bool). b && ltb s.clock ((job_at s i).last + (row_at s i).period)) e) ∙ h)

pub may_release : (s : State) (i : ℕ) → release_number s i ≡ 0 → MayRelease s i
unfolding release_number
may_release s i h =
    let p1 = past _ _ _ h in
    let p2 = past _ _ _ p1.1 in
    let p3 = past _ _ _ p2.1 in
    let p4 = past _ _ _ p3.1 in
    let f = shaped s (not-false _ p1.0) in
    let n = leb-false _ _ p2.0 in
    record {
      shape = f;
      below = n;
      not_early = not_early_facts s i p3.0;
      absent = absent_facts (standing_at s i) (not-false _ p4.0);
    }

waiting_kept : (s : State) (i : ℕ) (m : MayRelease s i) → Kept s.clock (row_at s i) (in_hand s i) (waiting_from s.clock (job_at s i))
waiting_kept s i m =
    let k = m.shape.row i m.below in
    record {
      last = omega arith;
      worst = k.worst;
      completed = k.completed;
      never = λ e. true_not_false _ refl e;
      standing = subst (Stands (row_at s i) (in_hand s i)) m.absent k.standing;
    }

pub release_keeps : (s : State) (i : ℕ) → MayRelease s i → Shaped (released s i)
unfolding released
release_keeps s i m =
    record {
      set = f.set;
      clock = f.clock;
      row = λ k l. row k l (ℕ_discrete k i);
      past = λ k l g. ((f.past k l g).0, released_other s i k g (λ e. omega (arith, m.below, l, e)) ∙ (f.past k l g).1);
      hand = f.hand;
    }
  where
    f : Shaped s
    f = m.shape

    most : (k : ℕ) → k < s.set.count → k < most_rows
    most k l = omega (arith, l, (set_well_formed s f).rows_most)

    row : (k : ℕ) → (l : k < s.set.count) → Dec (k ≡ i) → Kept s.clock (row_at s k) (in_hand s k) (job_at (released s i) k)
    row k l (yes e) =
        subst (λ (j : ℕ). Kept s.clock (row_at s j) (in_hand s j) (job_at (released s i) j)) (sym e)
        (subst (Kept s.clock (row_at s i) (in_hand s i)) (sym (released_job s i (most i m.below))) (waiting_kept s i m))
    row k l (no d) = subst (Kept s.clock (row_at s k) (in_hand s k)) (sym (released_other s i k (most k l) d)) (f.row k l)

-- A fresh start over a well-formed set.
pub start_keeps : (set : Set) → WellFormed set → Shaped (start_set set)
start_keeps set w =
    record {
      set = rw (start_set_lem set) (ap (λ (r : Refusal). r.number) (well_formed_taken set w));
      clock = rw (start_clock set) (omega arith);
      row = λ i l. row i (rw (start_set_lem set) at l);
      past = λ i l g. (rw (start_set_lem set) (w.past i (rw (start_set_lem set) at l) g), start_job set i g);
      hand = λ p l. rw (start_hand set p l) tt;
    }
  where
    row : (i : ℕ) → i < set.count → Kept (start_set set).clock (row_at (start_set set) i) (in_hand (start_set set) i) (job_at (start_set set) i)
    row i l =
        rw (start_set_lem set, start_clock set, start_job set i (omega (arith, l, w.rows_most)))
        (record {
          last = omega arith;
          worst = omega arith;
          completed = omega arith;
          never = λ e. refl;
          standing = ap (λ (h : Option ℕ). holds h i) (start_hand set (row_in set i).processor (omega (arith, (w.row i l).below, w.processors_most)));
        })

-- Any release and any tick keep the shape; refused ones change nothing.
pub release_refused : (s : State) (i : ℕ) → (release_number s i ≡ 0 → ⊥) → (release_of s i).state ≡ s
unfolding release_of
release_refused s i h = pick_false _ _ _ (ne_eqb _ _ h)

pub release_accepted : (s : State) (i : ℕ) → release_number s i ≡ 0 → (release_of s i).state ≡ released s i
unfolding release_of
release_accepted s i h = pick_true _ _ _ (eq-eqb _ _ h)

pub release_answer : (s : State) (i : ℕ) → (release_of s i).answer ≡ answered (refused (release_number s i) 0)
unfolding release_of
release_answer s i = refl

pub release_carried : (s : State) (i : ℕ) → carried (release_of s i).answer ≡ refused (release_number s i) 0
release_carried s i = ap carried (release_answer s i) ∙ carried_answer (refused (release_number s i) 0) (record { no_row = λ h. refl; no_instance = λ h. refl })

pub tick_refused : (s : State) → (tick_number s ≡ 0 → ⊥) → tick_of s ≡ unticked s (tick_number s)
unfolding tick_of
tick_refused s h = pick_false _ _ _ (ne_eqb _ _ h)

pub tick_accepted : (s : State) → tick_number s ≡ 0 → tick_of s ≡ ticked s
unfolding tick_of
tick_accepted s h = pick_true _ _ _ (eq-eqb _ _ h)

pub tick_state : (s : State) → (ticked s).state ≡ ran (taken s)
unfolding ticked
tick_state s = refl

pub release_shape : (s : State) (i : ℕ) → Shaped s → Shaped (release_of s i).state
release_shape s i f = go (ℕ_discrete (release_number s i) 0)
  where
    go : Dec (release_number s i ≡ 0) → Shaped (release_of s i).state
    go (yes h) = rw (release_accepted s i h) (release_keeps s i (may_release s i h))
    go (no h) = rw (release_refused s i h) f

pub tick_shape : (s : State) → Shaped s → Shaped (tick_of s).state
tick_shape s f = go (ℕ_discrete (tick_number s) 0)
  where
    go : Dec (tick_number s ≡ 0) → Shaped (tick_of s).state
    go (yes h) = rw (tick_accepted s h, tick_state s) (tick_keeps s (may_tick s h))
    go (no h) = rw (tick_refused s h) f

-- No call changes the set.
pub release_set : (s : State) (i : ℕ) → (release_of s i).state.set ≡ s.set
release_set s i = go (ℕ_discrete (release_number s i) 0)
  where
    go : Dec (release_number s i ≡ 0) → (release_of s i).state.set ≡ s.set
    go (yes h) = ap (λ (x : State). x.set) (release_accepted s i h) ∙ released_set s i
    go (no h) = ap (λ (x : State). x.set) (release_refused s i h)

pub tick_set : (s : State) → (tick_of s).state.set ≡ s.set
tick_set s = go (ℕ_discrete (tick_number s) 0)
  where
    go : Dec (tick_number s ≡ 0) → (tick_of s).state.set ≡ s.set
    go (yes h) = ap (λ (x : Ticked). x.state.set) (tick_accepted s h) ∙ ap (λ (x : State). x.set) (tick_state s) ∙ ran_set (has_token (taken s)) (taken s) ∙ taken_set s
    go (no h) = ap (λ (x : Ticked). x.state.set) (tick_refused s h)

-- What a release that is refused as LIVE says of the state.
pub record FoundLive (s : State) (i : ℕ) : Type 0 where
  pub shape : Shaped s
  pub below : i < s.set.count
  pub not_early : (job_at s i).ever ≡ true → (job_at s i).last + (row_at s i).period ≤ s.clock
  pub live : is_absent (standing_at s i) ≡ false

pub found_live : (s : State) (i : ℕ) → release_number s i ≡ LIVE → FoundLive s i
unfolding release_number
found_live s i h =
    let p1 = passed _ _ _ _ h (λ z. omega arith) in
    let p2 = passed _ _ _ _ p1.1 (λ z. omega arith) in
    let p3 = passed _ _ _ _ p2.1 (λ z. omega arith) in
    let f = shaped s (not-false _ p1.0) in
    let n = leb-false _ _ p2.0 in
    record {
      shape = f;
      below = n;
      not_early = not_early_facts s i p3.0;
      live = not-true _ (given _ _ p3.1);
    }

-- What a tick's answer says.
pub tick_answer : (s : State) → said (ticked s).answer ≡ record { refusal = accepted; token = token_named (token_at (taken s)); completed = completed_rows (taken s) }
unfolding ticked
tick_answer s = refl

pub tick_refused_answer : (s : State) → (tick_number s ≡ 0 → ⊥) → said (tick_of s).answer ≡ refused_beat (tick_number s)
tick_refused_answer s h = ap (λ (x : Ticked). said x.answer) (tick_refused s h)
