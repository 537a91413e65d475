-- What the shape says of a state, as facts; and that the facts make the shape.
use mathlib.Core.Path.{◌≡◌, refl, sym, ap, ◌∙◌}
use mathlib.Core.Bool.{Bool, true, false, ◌&&◌, ◌||◌, and-eq-true_iff}
use Prim.Native.Nat.{ℕ, ◌≤◌, ◌<◌}
use native.Mathlib.Omega.{arith}
use native.Mathlib.Decide.{dec_lt}
use lib.Dec.{ltb}
use borrow.Author.Tests.{ltb-true, leb-true, eqb-true, not-true, lt-ltb, le-ltb, le-leb, eq-eqb}
use Rattle.std.specs.Prelude.{Option, Some, None}
use Rattle.laws.specs.ChoiceLaws.{pick_true, pick_false, true_not_false, not_no}
use Rattle.laws.specs.SearchLaws.{all_at, all_of}
use Rattle.sheet.specs.Ranges.{most_processors, most_rows, memory_of, computation_of, set_refusal, set_row_fault, row_fault, zero_row, row_in, WellFormed}
use Rattle.sheet.specs.declared.Row.{Row}
use Rattle.sheet.specs.declared.Set.{Set}
use Rattle.sheet.proofs.Faults as faults
use Rattle.sheet.proofs.WritingLaws as writing
use Rattle.board.specs.declared.Job.{Job}
use Rattle.board.specs.declared.State.{State}
use Rattle.board.specs.declared.Standing.{Standing}
use Rattle.board.specs.declared.Standing.TheVariants.{Absent, Waiting, Memory, Computation}
use Rattle.board.specs.States.{most_clock, no_job, row_at, job_at, hand_at, is_absent, in_hand}
use Rattle.board.specs.Shape.{set_passes, row_is_zero, absent_with_zeros, job_is_zero, at_most_clock, ever_or_zero, standing_fits, job_fits, row_fits, hand_fits, shape_ok}

-- Ticks left, and in hand exactly if in memory or computation.
abbrev pub Stands : Row → Bool → Standing → Type 0
Stands row held Absent = held ≡ false
Stands row held Waiting = held ≡ false
Stands row held (Memory left) = (held ≡ true) × (1 ≤ left) × (left ≤ memory_of row)
Stands row held (Computation left) = (held ≡ true) × (1 ≤ left) × (left ≤ computation_of row)

-- What is kept for a row below n.
pub record Kept (clock : ℕ) (row : Row) (held : Bool) (job : Job) : Type 0 where
  pub last : job.last ≤ clock
  pub worst : job.worst ≤ clock
  pub completed : job.completed ≤ clock
  pub never : job.ever ≡ false → job ≡ no_job
  pub standing : Stands row held job.standing

-- A processor's hand.
abbrev pub OwnHand : Set → ℕ → Option ℕ → Type 0
OwnHand set p None = Unit {0}
OwnHand set p (Some i) = (i < set.count) × ((row_in set i).processor ≡ p) × (p < set.processors)

pub record Shaped (s : State) : Type 0 where
  pub set : (set_refusal s.set).number ≡ 0
  pub clock : s.clock ≤ most_clock
  pub row : (i : ℕ) → i < s.set.count → Kept s.clock (row_at s i) (in_hand s i) (job_at s i)
  pub past : (i : ℕ) → s.set.count ≤ i → i < most_rows → (row_at s i ≡ zero_row) × (job_at s i ≡ no_job)
  pub hand : (p : ℕ) → p < most_processors → OwnHand s.set p (hand_at s p)

-- From the tests to the facts.
standing_facts : (row : Row) (held : Bool) (st : Standing) → standing_fits row held st ≡ true → Stands row held st
unfolding standing_fits
standing_facts row held Absent h = not-true held h
standing_facts row held Waiting h = not-true held h
standing_facts row held (Memory left) h = let f = simp and-eq-true_iff at h in (f.0.0, leb-true _ _ f.0.1, leb-true _ _ f.1)
standing_facts row held (Computation left) h = let f = simp and-eq-true_iff at h in (f.0.0, leb-true _ _ f.0.1, leb-true _ _ f.1)

pub absent_facts : (st : Standing) → is_absent st ≡ true → st ≡ Absent
absent_facts Absent h = refl
absent_facts Waiting h = true_not_false _ h refl
absent_facts (Memory left) h = true_not_false _ h refl
absent_facts (Computation left) h = true_not_false _ h refl

zero_job : (job : Job) → job.ever ≡ false → absent_with_zeros job ≡ true → job ≡ no_job
unfolding absent_with_zeros
zero_job job e h =
    let f = simp and-eq-true_iff at h in
    let st = absent_facts job.standing f.0.0.0 in
    let l = eqb-true _ _ f.0.0.1 in
    let w = eqb-true _ _ f.0.1 in
    let c = eqb-true _ _ f.1 in
    λ j. record { ever = e j; last = l j; standing = st j; worst = w j; completed = c j }

never_facts : (job : Job) → ever_or_zero job ≡ true → job.ever ≡ false → job ≡ no_job
unfolding ever_or_zero
never_facts job h e = zero_job job e (sym (ap (λ (b : Bool). b || absent_with_zeros job) e) ∙ h)

kept_facts : (clock : ℕ) (row : Row) (held : Bool) (job : Job) → job_fits clock row held job ≡ true → Kept clock row held job
unfolding job_fits at_most_clock
kept_facts clock row held job h =
    let f = simp and-eq-true_iff at h in
    record {
      last = leb-true _ _ f.0.0.0.0;
      worst = leb-true _ _ f.0.0.0.1;
      completed = leb-true _ _ f.0.0.1;
      never = never_facts job f.0.1;
      standing = standing_facts row held job.standing f.1;
    }

zero_row_lem : (r : Row) → row_is_zero r ≡ true → r ≡ zero_row
unfolding row_is_zero
zero_row_lem r h =
    let f = simp and-eq-true_iff at h in
    let p = eqb-true _ _ f.0.0.0.0 in
    let m = eqb-true _ _ f.0.0.0.1 in
    let c = eqb-true _ _ f.0.0.1 in
    let t = eqb-true _ _ f.0.1 in
    let d = eqb-true _ _ f.1 in
    λ j. record { processor = p j; memory = m j; computation = c j; period = t j; deadline = d j }

hand_facts : (s : State) (p : ℕ) (hand : Option ℕ) → hand_fits s p hand ≡ true → OwnHand s.set p hand
unfolding hand_fits
hand_facts s p None h = tt
hand_facts s p (Some i) h = let f = simp and-eq-true_iff at h in (ltb-true _ _ f.0.0, eqb-true _ _ f.0.1, ltb-true _ _ f.1)

row_facts : (s : State) (i : ℕ) → i < s.set.count → row_fits s i ≡ true → Kept s.clock (row_at s i) (in_hand s i) (job_at s i)
unfolding row_fits
row_facts s i l h = kept_facts _ _ _ _ (sym (pick_true (ltb i s.set.count) _ _ (lt-ltb _ _ l)) ∙ h)

past_facts : (s : State) (i : ℕ) → s.set.count ≤ i → row_fits s i ≡ true → (row_at s i ≡ zero_row) × (job_at s i ≡ no_job)
unfolding row_fits job_is_zero
past_facts s i l h =
    let f = simp and-eq-true_iff at (sym (pick_false (ltb i s.set.count) _ _ (le-ltb _ _ l)) ∙ h) in
    (zero_row_lem (row_at s i) f.0, zero_job (job_at s i) (not-true _ f.1.0) f.1.1)

pub shaped : (s : State) → shape_ok s ≡ true → Shaped s
unfolding shape_ok set_passes
shaped s h =
    let f = simp and-eq-true_iff at h in
    let few = (writing.set_counts s.set (eqb-true _ _ f.0.0.0)).rows in
    record {
      set = eqb-true _ _ f.0.0.0;
      clock = leb-true _ _ f.0.0.1;
      row = λ i l. row_facts s i l (all_at most_rows (row_fits s) i f.0.1 (omega arith));
      past = λ i l g. past_facts s i l (all_at most_rows (row_fits s) i f.0.1 g);
      hand = λ p l. hand_facts s p (hand_at s p) (all_at most_processors (λ q. hand_fits s q (hand_at s q)) p f.1 l);
    }

-- From the facts to the tests.
both : (a b : Bool) → a ≡ true → b ≡ true → a && b ≡ true
both a b p q = (and-eq-true_iff a b).1 (p, q)

standing_fits_lem : (row : Row) (held : Bool) (st : Standing) → Stands row held st → standing_fits row held st ≡ true
unfolding standing_fits
standing_fits_lem row held Absent h = not_no held h
standing_fits_lem row held Waiting h = not_no held h
standing_fits_lem row held (Memory left) h = both _ _ (both _ _ h.0 (le-leb _ _ h.1)) (le-leb _ _ h.2)
standing_fits_lem row held (Computation left) h = both _ _ (both _ _ h.0 (le-leb _ _ h.1)) (le-leb _ _ h.2)

ever_fits : (job : Job) → (job.ever ≡ false → job ≡ no_job) → ever_or_zero job ≡ true
unfolding ever_or_zero absent_with_zeros
ever_fits job h = go job.ever refl
  where
    go : (b : Bool) → job.ever ≡ b → b || absent_with_zeros job ≡ true
    go true e = refl
    go false e = rw (h e)

job_fits_lem : (clock : ℕ) (row : Row) (held : Bool) (job : Job) → Kept clock row held job → job_fits clock row held job ≡ true
unfolding job_fits at_most_clock
job_fits_lem clock row held job k =
    both _ _
    (both _ _ (both _ _ (both _ _ (le-leb _ _ k.last) (le-leb _ _ k.worst)) (le-leb _ _ k.completed)) (ever_fits job k.never))
    (standing_fits_lem row held job.standing k.standing)

hand_fits_lem : (s : State) (p : ℕ) (hand : Option ℕ) → OwnHand s.set p hand → hand_fits s p hand ≡ true
unfolding hand_fits
hand_fits_lem s p None h = refl
hand_fits_lem s p (Some i) h = both _ _ (both _ _ (lt-ltb _ _ h.0) (eq-eqb _ _ h.1)) (lt-ltb _ _ h.2)

row_fits_lem : (s : State) → Shaped s → (i : ℕ) → i < most_rows → row_fits s i ≡ true
unfolding row_fits job_is_zero row_is_zero absent_with_zeros
row_fits_lem s f i l = go (dec_lt i s.set.count)
  where
    go : Dec (i < s.set.count) → row_fits s i ≡ true
    go (yes h) = pick_true (ltb i s.set.count) _ _ (lt-ltb _ _ h) ∙ job_fits_lem _ _ _ _ (f.row i h)
    go (no h) =
        let z = f.past i (omega arith) l in
        pick_false (ltb i s.set.count) _ _ (le-ltb i s.set.count (omega arith)) ∙ rw (z.0, z.1)

pub shape_of : (s : State) → Shaped s → shape_ok s ≡ true
unfolding shape_ok set_passes
shape_of s f =
    both _ _
    (both _ _ (both _ _ (eq-eqb _ _ f.set) (le-leb _ _ f.clock)) (all_of most_rows (row_fits s) (row_fits_lem s f)))
    (all_of most_processors (λ p. hand_fits s p (hand_at s p)) (λ p l. hand_fits_lem s p (hand_at s p) (f.hand p l)))

-- A state of the shape holds a well-formed set.
pub set_well_formed : (s : State) → Shaped s → WellFormed s.set
unfolding set_row_fault row_fault
set_well_formed s f =
    let c = writing.set_counts s.set f.set in
    record {
      processors_some = c.some;
      processors_most = c.few;
      rows_most = c.rows;
      row = λ i l. faults.in_range _ _ _ (writing.set_rows s.set f.set i l);
      past = λ i l g. (f.past i l g).0;
    }

-- Its rows below n are below 32.
pub below_most : (s : State) → Shaped s → (i : ℕ) → i < s.set.count → i < most_rows
below_most s f i l = omega (arith, l, (set_well_formed s f).rows_most)
