-- Rule 1: what a processor takes, what becomes of a row, and that the state in the middle of a tick is of the shape too.
use mathlib.Core.Path.{◌≡◌, refl, sym, ap, subst, subst₂, ◌∙◌}
use mathlib.Core.Bool.{Bool, true, false, and-eq-true_iff}
use mathlib.Core.Logic.{◌⊎◌, inl, inr}
use Prim.Native.Nat.{ℕ, ◌≤◌, ◌<◌}
use native.Mathlib.Omega.{arith}
use native.Mathlib.Decide.{dec_lt, ℕ_discrete}
use lib.Dec.{ltb, eqb}
use borrow.Author.Tests.{eqb-true, eqb-false, eq-eqb, ne_eqb, lt-ltb, le-ltb}
use Rattle.std.specs.Prelude.{Option, Some, None}
use Rattle.laws.specs.Choice.{pick}
use Rattle.laws.specs.ChoiceLaws.{pick_true, pick_false, true_not_false}
use Rattle.laws.specs.Search.{first}
use Rattle.laws.specs.SearchLaws.{first_is}
use Rattle.sheet.specs.Ranges.{most_processors, most_rows, memory_of, computation_of, length_of, WellFormed}
use Rattle.sheet.specs.declared.Row.{Row}
use Rattle.board.specs.declared.Job.{Job}
use Rattle.board.specs.declared.State.{State}
use Rattle.board.specs.declared.Standing.{Standing}
use Rattle.board.specs.declared.Standing.TheVariants.{Absent, Waiting, Memory, Computation}
use Rattle.board.specs.States.{no_job, row_at, job_at, hand_at, processor_at, standing_at, is_waiting, holds, in_hand}
use Rattle.board.specs.Rules.{stand_as, waits_on, first_waiting, takes, hand_taken, begins, job_taken, taken}
use Rattle.board.proofs.ShapeFacts.{Stands, Kept, OwnHand, Shaped, set_well_formed}
use Rattle.board.proofs.Pointwise.{taken_job, taken_hand}

-- A hand that holds row i.
pub held_is : (hand : Option ℕ) (i : ℕ) → holds hand i ≡ true → hand ≡ Some i
held_is None i h = true_not_false _ h refl
held_is (Some k) i h = ap Some (eqb-true k i h)

pub is_held : (hand : Option ℕ) (i : ℕ) → hand ≡ Some i → holds hand i ≡ true
is_held hand i e = rw e (eq-eqb i i refl)

pub not_held : (hand : Option ℕ) (i k : ℕ) → hand ≡ Some k → (k ≡ i → ⊥) → holds hand i ≡ false
not_held hand i k e d = rw e (ne_eqb k i d)

pub waiting_is : (st : Standing) → is_waiting st ≡ true → st ≡ Waiting
waiting_is Absent h = true_not_false _ h refl
waiting_is Waiting h = refl
waiting_is (Memory left) h = true_not_false _ h refl
waiting_is (Computation left) h = true_not_false _ h refl

-- The first row that waits on processor p.
pub waits : (s : State) (p : ℕ) → first_waiting s p < most_rows → (standing_at s (first_waiting s p) ≡ Waiting) × (processor_at s (first_waiting s p) ≡ p)
unfolding first_waiting waits_on
waits s p l =
    let k = first most_rows (waits_on s p) in
    let f = (and-eq-true_iff _ _).0 ((first_is most_rows (waits_on s p)).passes (omega arith)) in
    (waiting_is (standing_at s k) f.0, eqb-true _ _ f.1)

-- A row that waits on p is not before the first.
pub first_before : (s : State) (p i : ℕ) → i < most_rows → standing_at s i ≡ Waiting → processor_at s i ≡ p → first_waiting s p ≤ i
unfolding first_waiting waits_on
first_before s p i l w e = go (dec_lt i (first most_rows (waits_on s p)))
  where
    go : Dec (i < first most_rows (waits_on s p)) → first most_rows (waits_on s p) ≤ i
    go (yes h) =
        true_not_false _ ((and-eq-true_iff _ _).1 (ap is_waiting w, eq-eqb _ _ e)) ((first_is most_rows (waits_on s p)).none i (omega arith) h)
    go (no h) = omega arith

-- What a processor has in hand after rule 1: what it had, or the first row waiting.
pub data HandHow (s : State) (p : ℕ) : Option ℕ → Type 0 where
  had : (i : ℕ) → hand_at s p ≡ Some i → HandHow s p (Some i)
  took : hand_at s p ≡ None → first_waiting s p < most_rows → HandHow s p (Some (first_waiting s p))
  none : hand_at s p ≡ None → most_rows ≤ first_waiting s p → HandHow s p None

pub hand_how : (s : State) (p : ℕ) → HandHow s p (hand_taken s p)
unfolding hand_taken
hand_how s p = go (hand_at s p) refl (dec_lt (first_waiting s p) most_rows)
  where
    go : (h : Option ℕ) → hand_at s p ≡ h → Dec (first_waiting s p < most_rows) → HandHow s p (takes h (first_waiting s p))
    go (Some i) e d = had i e
    go None e (yes l) = subst (HandHow s p) (sym (pick_true (ltb (first_waiting s p) most_rows) _ _ (lt-ltb _ _ l))) (took e l)
    go None e (no l) = subst (HandHow s p) (sym (pick_false (ltb (first_waiting s p) most_rows) _ _ (le-ltb (first_waiting s p) most_rows (omega arith)))) (none e (omega arith))

-- What becomes of row i: it is as it was, or it is newly in hand.
pub record AsWas (s : State) (i : ℕ) : Type 0 where
  pub job : job_taken s i ≡ job_at s i
  pub held : holds (hand_taken s (processor_at s i)) i ≡ in_hand s i

pub record Begins (s : State) (i : ℕ) : Type 0 where
  pub waited : standing_at s i ≡ Waiting
  pub free : hand_at s (processor_at s i) ≡ None
  pub first : first_waiting s (processor_at s i) ≡ i
  pub held : holds (hand_taken s (processor_at s i)) i ≡ true
  pub job : job_taken s i ≡ stand_as (job_at s i) (begins (row_at s i) Waiting)

same_standing : (row : Row) (job : Job) → Stands row true job.standing → stand_as job (begins row job.standing) ≡ job
same_standing row job h = go job.standing refl h
  where
    go : (st : Standing) → job.standing ≡ st → Stands row true st → stand_as job (begins row job.standing) ≡ job
    go Absent e g = true_not_false _ refl g
    go Waiting e g = true_not_false _ refl g
    go (Memory left) e g = λ j. record { ever = job.ever; last = job.last; standing = (ap (begins row) e ∙ sym e) j; worst = job.worst; completed = job.completed }
    go (Computation left) e g = λ j. record { ever = job.ever; last = job.last; standing = (ap (begins row) e ∙ sym e) j; worst = job.worst; completed = job.completed }

module _ (s : State) (f : Shaped s) where
  w : WellFormed s.set
  w = set_well_formed s f

  -- A row that waits is below n.
  pub waiting_below : (i : ℕ) → i < most_rows → standing_at s i ≡ Waiting → i < s.set.count
  waiting_below i l e = go (dec_lt i s.set.count)
    where
      go : Dec (i < s.set.count) → i < s.set.count
      go (yes h) = h
      go (no h) =
          let z : Absent ≡ Waiting = sym (ap (λ (j : Job). j.standing) (f.past i (omega arith) l).1) ∙ e in
          absurd (let y : ◌≡◌ {A = ℕ} 0 1 = cc in omega arith)

  stays : (i : ℕ) → holds (hand_taken s (processor_at s i)) i ≡ false → in_hand s i ≡ false → AsWas s i
  unfolding job_taken
  stays i a b = record { job = pick_false _ _ _ a; held = a ∙ sym b }

  in_hand_lem : (i : ℕ) → i < s.set.count → holds (hand_taken s (processor_at s i)) i ≡ true → in_hand s i ≡ true → AsWas s i
  unfolding job_taken
  in_hand_lem i l a b =
      record {
        job = pick_true _ _ _ a ∙ same_standing (row_at s i) (job_at s i) (subst (λ (h : Bool). Stands (row_at s i) h (standing_at s i)) b (f.row i l).standing);
        held = a ∙ sym b;
      }

  newly : (i : ℕ) → hand_at s (processor_at s i) ≡ None → first_waiting s (processor_at s i) ≡ i → i < most_rows → holds (hand_taken s (processor_at s i)) i ≡ true → Begins s i
  unfolding job_taken
  newly i e q l a =
      let p = processor_at s i in
      let wait : standing_at s i ≡ Waiting = subst (λ (k : ℕ). standing_at s k ≡ Waiting) q (waits s p (subst (λ (k : ℕ). k < most_rows) (sym q) l)).0 in
      record {
        waited = wait;
        free = e;
        first = q;
        held = a;
        job = pick_true _ _ _ a ∙ ap (λ (st : Standing). stand_as (job_at s i) (begins (row_at s i) st)) wait;
      }

  pub row_how : (i : ℕ) → i < s.set.count → AsWas s i ⊎ Begins s i
  row_how i l = go (hand_taken s p) refl (hand_how s p)
    where
      p : ℕ
      p = processor_at s i

      most : i < most_rows
      most = omega (arith, w.rows_most)

      go : (h : Option ℕ) → hand_taken s p ≡ h → HandHow s p h → AsWas s i ⊎ Begins s i
      go h e (had k q) = at (ℕ_discrete k i)
        where
          at : Dec (k ≡ i) → AsWas s i ⊎ Begins s i
          at (yes d) = inl (in_hand_lem i l (is_held _ i (e ∙ ap Some d)) (is_held _ i (q ∙ ap Some d)))
          at (no d) = inl (stays i (not_held _ i k e d) (not_held _ i k q d))
      go h e (took q g) = at (ℕ_discrete (first_waiting s p) i)
        where
          at : Dec (first_waiting s p ≡ i) → AsWas s i ⊎ Begins s i
          at (yes d) = inr (newly i q d most (is_held _ i (e ∙ ap Some d)))
          at (no d) = inl (stays i (not_held _ i _ e d) (ap (λ (x : Option ℕ). holds x i) q))
      go h e (none q g) = inl (stays i (ap (λ (x : Option ℕ). holds x i) e) (ap (λ (x : Option ℕ). holds x i) q))

  -- Rule 1 keeps the shape.
  begun_stands : (row : Row) → 1 ≤ length_of row → Stands row true (begins row Waiting)
  begun_stands row h = go (eqb (memory_of row) 0) refl
    where
      go : (b : Bool) → eqb (memory_of row) 0 ≡ b → Stands row true (pick b (Computation (computation_of row)) (Memory (memory_of row)))
      go true e = (refl, omega (arith, eqb-true (memory_of row) 0 e), omega arith)
      go false e = (refl, omega (arith, eqb-false (memory_of row) 0 e), omega arith)

  kept_taken : (i : ℕ) → (l : i < s.set.count) → Kept s.clock (row_at s i) (holds (hand_taken s (processor_at s i)) i) (job_taken s i)
  kept_taken i l = go (row_how i l)
    where
      k : Kept s.clock (row_at s i) (in_hand s i) (job_at s i)
      k = f.row i l

      go : AsWas s i ⊎ Begins s i → Kept s.clock (row_at s i) (holds (hand_taken s (processor_at s i)) i) (job_taken s i)
      go (inl a) = rw (a.job, a.held) k
      go (inr b) =
          rw (b.held, b.job)
          (record {
            last = k.last;
            worst = k.worst;
            completed = k.completed;
            never = λ e. absurd (let z : ◌≡◌ {A = ℕ} 0 1 = cc (b.waited, ap (λ (j : Job). j.standing) (k.never e)) in omega arith);
            standing = begun_stands (row_at s i) (w.row i l).length_some;
          })

  hand_own : (p : ℕ) → p < most_processors → OwnHand s.set p (hand_taken s p)
  hand_own p l = go (hand_taken s p) (hand_how s p)
    where
      go : (h : Option ℕ) → HandHow s p h → OwnHand s.set p h
      go h (had i q) = subst (OwnHand s.set p) q (f.hand p l)
      go h (took q g) =
          let x = waits s p g in
          let n = waiting_below (first_waiting s p) g x.0 in
          (n, x.1, omega (arith, x.1, (w.row (first_waiting s p) n).below))
      go h (none q g) = tt

  past_taken : (i : ℕ) → s.set.count ≤ i → i < most_rows → job_taken s i ≡ no_job
  unfolding job_taken
  past_taken i l g =
      let h = holds (hand_taken s (processor_at s i)) i in
      ap (λ (j : Job). pick h (stand_as j (begins (row_at s i) j.standing)) j) (f.past i l g).1 ∙ go h
    where
      go : (b : Bool) → pick b (stand_as no_job (begins (row_at s i) Absent)) no_job ≡ no_job
      go true = refl
      go false = refl

  pub processor_most : (i : ℕ) → i < s.set.count → processor_at s i < most_processors
  processor_most i l = omega (arith, (w.row i l).below, w.processors_most)

  pub take_keeps : Shaped (taken s)
  unfolding taken
  take_keeps =
      record {
        set = f.set;
        clock = f.clock;
        row = λ i l.
            subst₂ (λ (h : Option ℕ) (j : Job). Kept s.clock (row_at s i) (holds h i) j)
            (sym (taken_hand s (processor_at s i) (processor_most i l))) (sym (taken_job s i (omega (arith, l, w.rows_most)))) (kept_taken i l);
        past = λ i l g. ((f.past i l g).0, taken_job s i g ∙ past_taken i l g);
        hand = λ p l. subst (OwnHand s.set p) (sym (taken_hand s p l)) (hand_own p l);
      }
