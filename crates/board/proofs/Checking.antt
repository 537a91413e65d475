-- The check of a state, as the loops of the calls make it: the head, then row by row, then hand by hand. It says the shape.
use Prim.Native.Nat.{ℕ, ◌+◌, ◌%◌, ◌≤◌, ◌<◌}
use mathlib.Core.Path.{◌≡◌, refl, sym, ap, ◌∙◌}
use mathlib.Core.Bool.{Bool, true, false, ◌&&◌, and-eq-true_iff}
use native.Mathlib.Omega.{arith}
use native.Mathlib.Decide.{dec_lt}
use native.Mathlib.Numerals.{add-one}
use lib.Dec.{ltb, eqb}
use borrow.Author.Count.{below_more}
use borrow.Author.Tests.{ltb-true, leb-true, eqb-true, lt-ltb, le-ltb, le-leb, eq-eqb}
use Rattle.std.specs.Prelude.{Option, Some, None}
use Rattle.laws.specs.Search.{all}
use Rattle.laws.specs.SearchLaws.{all_at, all_of}
use Rattle.laws.specs.Choice.{pick}
use Rattle.laws.specs.ChoiceLaws.{pick_true, pick_false, true_not_false, both_ways}
use Rattle.sheet.specs.Ranges.{most_processors, most_rows, row_in, before, row_fault, set_row_fault, first_fault, set_refusal}
use Rattle.sheet.specs.declared.Set.{Set}
use Rattle.sheet.specs.declared.Refusal.{Refusal}
use Rattle.sheet.proofs.Faults as faults
use Rattle.sheet.proofs.WritingLaws as writing
use Rattle.board.specs.declared.State.{State}
use Rattle.board.specs.States.{row_at, job_at, hand_at, processor_at}
use Rattle.board.specs.Shape.{set_passes, row_fits, hand_fits, shape_ok}
use Rattle.board.proofs.Standings.{not_so}
use Rattle.board.specs.Parts.{row_or, hand_is_own, head_fits, part_fits, part_is_zero}

-- A set without a fault passes.
set_passes_lem : (set : Set) → faults.Counts set.processors set.count → ((i : ℕ) → i < set.count → set_row_fault set i ≡ 0) → (set_refusal set).number ≡ 0
unfolding set_refusal
set_passes_lem set c r =
    ap (λ (x : Refusal). x.number)
    (faults.or_second _ (first_fault (set_row_fault set) set.count) (faults.counts_clear _ _ c) ∙ faults.no_fault (set_row_fault set) set.count r)

module _ (s : State) where
  -- The tests: of the head, of row i with the hand of its processor, and of processor p's hand. The code reads hands and rows at
  -- indices that are below 8 and 32 whatever the state.
  abbrev pub head_passes : Bool
  head_passes = head_fits s.set.processors s.set.count s.clock

  abbrev pub part_passes : ℕ → Bool
  part_passes i =
      pick (ltb i s.set.count)
      (part_fits s.set.processors (before (row_in s.set) i) s.clock i (row_at s i) (hand_at s (processor_at s i % 8)) (job_at s i))
      (part_is_zero (row_at s i) (job_at s i))

  abbrev pub hand_passes : ℕ → Bool
  hand_passes p = hand_is_own (hand_at s p) (processor_at s (row_or (hand_at s p) 0 % 32)) p s.set.count s.set.processors

  abbrev pub rows_pass : ℕ → Bool
  rows_pass i = head_passes && all i part_passes

  abbrev pub hands_pass : ℕ → Bool
  hands_pass p = rows_pass most_rows && all p hand_passes

  -- A row without a fault: its processor is below 8, and the test of its part is the shape's.
  part_is : (i : ℕ) → s.set.processors ≤ most_processors → (i < s.set.count → set_row_fault s.set i ≡ 0) → part_passes i ≡ row_fits s i
  unfolding part_fits part_is_zero row_fits set_row_fault row_fault
  part_is i few e = go (dec_lt i s.set.count)
    where
      go : Dec (i < s.set.count) → part_passes i ≡ row_fits s i
      go (yes l) =
          let below = (faults.in_range s.set.processors (before (row_in s.set) i) (row_at s i) (e l)).below in
          let here : processor_at s i % 8 ≡ processor_at s i = omega (arith, below, few) in
          rw (lt-ltb i s.set.count l, eq-eqb _ _ (e l), here)
      go (no l) = rw (le-ltb i s.set.count (omega arith))

  hand_is : (p : ℕ) (h : Option ℕ) → s.set.count ≤ most_rows → hand_is_own h (processor_at s (row_or h 0 % 32)) p s.set.count s.set.processors ≡ hand_fits s p h
  unfolding hand_fits
  hand_is p None few = refl
  hand_is p (Some i) few = go (ltb i s.set.count) refl
    where
      go : (b : Bool) → ltb i s.set.count ≡ b → (b && eqb (processor_at s (i % 32)) p && ltb p s.set.processors) ≡ (b && eqb (processor_at s i) p && ltb p s.set.processors)
      go true e =
          let r : i % 32 ≡ i = omega (arith, ltb-true i s.set.count e, few) in
          rw r
      go false e = refl

  fault_none : (i : ℕ) → i < s.set.count → part_passes i ≡ true → set_row_fault s.set i ≡ 0
  unfolding part_fits set_row_fault
  fault_none i l h = eqb-true _ _ ((and-eq-true_iff _ _).0 (sym (pick_true (ltb i s.set.count) _ _ (lt-ltb _ _ l)) ∙ h)).0

  passes_shape : hands_pass most_processors ≡ true → shape_ok s ≡ true
  unfolding shape_ok set_passes
  passes_shape h =
      let f = simp and-eq-true_iff at h in
      let rows : s.set.count ≤ most_rows = leb-true _ _ f.0.0.0.1 in
      let few : s.set.processors ≤ most_processors = leb-true _ _ f.0.0.0.0.1 in
      let part : (i : ℕ) → i < most_rows → part_passes i ≡ true = λ i l. all_at most_rows part_passes i f.0.1 l in
      let fault : (i : ℕ) → i < s.set.count → set_row_fault s.set i ≡ 0 = λ i l. fault_none i l (part i (omega (arith, l, rows))) in
      simp (
        set_passes_lem s.set (record { some = leb-true _ _ f.0.0.0.0.0; few = few; rows = rows }) fault,
        f.0.0.1,
        all_of most_rows (row_fits s) (λ i l. sym (part_is i few (fault i)) ∙ part i l),
        all_of most_processors (λ p. hand_fits s p (hand_at s p)) (λ p l. sym (hand_is p (hand_at s p) rows) ∙ all_at most_processors hand_passes p f.1 l),
      )

  shape_passes : shape_ok s ≡ true → hands_pass most_processors ≡ true
  unfolding shape_ok set_passes
  shape_passes h =
      let f = simp and-eq-true_iff at h in
      let set = eqb-true _ _ f.0.0.0 in
      let c = writing.set_counts s.set set in
      simp (
        le-leb _ _ c.some,
        le-leb _ _ c.few,
        le-leb _ _ c.rows,
        f.0.0.1,
        all_of most_rows part_passes (λ i l. part_is i c.few (λ g. writing.set_rows s.set set i g) ∙ all_at most_rows (row_fits s) i f.0.1 l),
        all_of most_processors hand_passes (λ p l. hand_is p (hand_at s p) c.rows ∙ all_at most_processors (λ p. hand_fits s p (hand_at s p)) p f.1 l),
      )

  pub check_is_shape : hands_pass most_processors ≡ shape_ok s
  check_is_shape = both_ways _ _ passes_shape shape_passes

module _ (s : State) where
  -- A head that passes has at most 32 rows.
  few_rows : head_passes s ≡ true → s.set.count ≤ most_rows
  few_rows h = let f = simp and-eq-true_iff at h in leb-true _ _ f.0.1

  -- The loop over the n rows: the head and the rows below i pass, and `last` is the processor of the row before i.
  pub record RowsPassed (last i : ℕ) : Type 0 where
    pub head : head_passes s ≡ true
    pub rows : (k : ℕ) → k < i → part_passes s k ≡ true
    pub last_is : last ≡ before (row_in s.set) i

  pub rows_none : (fits : Bool) → fits ≡ head_passes s → fits ≡ true → RowsPassed 0 0
  rows_none fits e f = record { head = sym e ∙ f; rows = λ k l. absurd (omega (arith, l)); last_is = refl }

  module _ (last i : ℕ) (c : RowsPassed last i) (l : i < s.set.count) where
    pub row_below : i < most_rows
    row_below = omega (arith, few_rows c.head, l)

    -- the test of row i
    pub row_is : (passes : Bool)
        → passes ≡ part_fits s.set.processors last s.clock i (row_at s i) (hand_at s (processor_at s i % 8)) (job_at s i)
        → passes ≡ part_passes s i
    row_is passes e = (rw c.last_is at e) ∙ sym (pick_true (ltb i s.set.count) _ _ (lt-ltb _ _ l))

    pub rows_more : part_passes s i ≡ true → RowsPassed (processor_at s i) (i + 1)
    rows_more e = record { head = c.head; rows = below_more _ _ c.rows e; last_is = rw add-one }

  -- The loop over what is past n goes on from there.
  pub record PastPassed (i : ℕ) : Type 0 where
    pub head : head_passes s ≡ true
    pub rows : (k : ℕ) → k < i → part_passes s k ≡ true

  pub past_is : (i : ℕ) → s.set.count ≤ i → (passes : Bool) → passes ≡ part_is_zero (row_at s i) (job_at s i) → passes ≡ part_passes s i
  past_is i l passes e = e ∙ sym (pick_false (ltb i s.set.count) _ _ (le-ltb i s.set.count l))

  -- The loop over the hands goes on from there.
  pub record HandsPassed (p : ℕ) : Type 0 where
    pub all_rows : rows_pass s most_rows ≡ true
    pub hands : (q : ℕ) → q < p → hand_passes s q ≡ true

  pub hands_none : (i : ℕ) → PastPassed i → most_rows ≤ i → HandsPassed 0
  hands_none i c end =
      record {
        all_rows = (and-eq-true_iff _ _).1 (c.head, all_of most_rows (part_passes s) (λ k l. c.rows k (omega (arith, l, end))));
        hands = λ q l. absurd (omega (arith, l));
      }

  -- At its end the state has the shape,
  pub hands_all : (p : ℕ) → HandsPassed p → most_processors ≤ p → shape_ok s ≡ true
  hands_all p c end =
      sym (check_is_shape s) ∙ (and-eq-true_iff _ _).1 (c.all_rows, all_of most_processors (hand_passes s) (λ q l. c.hands q (omega (arith, l, end))))

  -- and where a test fails it has not.
  shape_all : shape_ok s ≡ true → (head_passes s ≡ true) × (all most_rows (part_passes s) ≡ true) × (all most_processors (hand_passes s) ≡ true)
  shape_all h =
      let f = (and-eq-true_iff _ _).0 (check_is_shape s ∙ h) in
      let g = (and-eq-true_iff _ _).0 f.0 in
      (g.0, g.1, f.1)

  pub head_fails : (fits : Bool) → fits ≡ head_passes s → fits ≡ false → shape_ok s ≡ false
  head_fails fits e f = not_so _ (λ h. true_not_false _ (shape_all h).0 (sym e ∙ f))

  pub part_fails : (i : ℕ) → i < most_rows → part_passes s i ≡ false → shape_ok s ≡ false
  part_fails i l f = not_so _ (λ h. true_not_false _ (all_at most_rows (part_passes s) i (shape_all h).1 l) f)

  pub hand_fails : (p : ℕ) → p < most_processors → hand_passes s p ≡ false → shape_ok s ≡ false
  hand_fails p l f = not_so _ (λ h. true_not_false _ (all_at most_processors (hand_passes s) p (shape_all h).2 l) f)
