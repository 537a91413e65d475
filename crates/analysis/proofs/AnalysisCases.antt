-- The analysis of a reading, case by case: a refused reading, too little room, a refused row, acceptance; and a sheet's, by its reading.
use Prim.Native.Nat.{ℕ, ◌≤◌, ◌<◌}
use mathlib.Core.Path.{◌≡◌, sym, ap, subst, ◌∙◌}
use mathlib.Core.List.{List, ◌++◌}
use native.Mathlib.Omega.{arith}
use Rattle.std.specs.Prelude.{⊤, Result, Ok, Err}
use lib.ListN.{length, take, drop}
use lib.Seq.{length-take-le}
use borrow.Author.Tests.{eq-eqb, ne_eqb, lt-ltb, le-ltb}
use Rattle.laws.specs.Choice.{first_of}
use Rattle.sheet.specs.declared.Refusal.{Refusal}
use Rattle.sheet.specs.declared.Reading.{Reading}
use Rattle.sheet.specs.Refusals.{ROOM, refused, accepted, carried, answered, or_else}
use Rattle.sheet.specs.Ranges.{WellFormed}
use Rattle.sheet.specs.Reading.{read_refusal, read_sheet}
use Rattle.sheet.proofs.Faults.{or_first, or_second}
use Rattle.sheet.proofs.AnswerLaws.{refusing, accepted_as, refused_as}
use Rattle.sheet.proofs.ReadingLaws.{read_accepted, read_carried, well_formed}
use Rattle.analysis.specs.Bounds.{Accepted, analyse_set}
use Rattle.analysis.specs.Analysis.{refusal_of, room_refusal, reading_refusal, reading_bounds, analyse_refusal, analysed}
use Rattle.analysis.specs.Parts.{Accepts, Refuses, WellRead}

-- What is read of a sheet can be analysed.
pub sheet_well_read : (s : List ℕ) → WellRead (read_sheet s)
unfolding read_sheet
sheet_well_read s =
    record {
      answers = ap answered (sym (read_carried s));
      formed = λ h. let z : (read_refusal s).number ≡ 0 = ap (λ (r : Refusal). r.number) (sym (read_carried s)) ∙ h in
          subst WellFormed (ap (λ (r : Reading). r.set) (read_accepted s z)) (well_formed s z);
    }

module _ (n places : ℕ) where
  room_short : places < n → room_refusal n places ≡ refused ROOM 0
  unfolding first_of
  room_short h = rw (lt-ltb places n h)

  room_enough : n ≤ places → room_refusal n places ≡ accepted
  unfolding first_of
  room_enough h = rw (le-ltb places n h)

-- What the analysis of a reading says, whatever was read.
module _ (reading : Reading) where
  unread : (places : ℕ) → ((carried reading.refusal).number ≡ 0 → ⊥) → reading_refusal reading places ≡ carried reading.refusal
  unfolding reading_refusal
  unread places n = or_first _ _ n

  roomless : (places : ℕ) → (carried reading.refusal).number ≡ 0 → places < reading.set.count → reading_refusal reading places ≡ refused ROOM 0
  unfolding reading_refusal
  roomless places e h =
      or_second _ _ e ∙ ap (λ (r : Refusal). or_else r (refusal_of (analyse_set reading.set))) (room_short reading.set.count places h)

  pub worked_out : (places : ℕ) → (carried reading.refusal).number ≡ 0 → reading.set.count ≤ places → reading_refusal reading places ≡ refusal_of (analyse_set reading.set)
  unfolding reading_refusal
  worked_out places e h =
      or_second _ _ e ∙ ap (λ (r : Refusal). or_else r (refusal_of (analyse_set reading.set))) (room_enough reading.set.count places h)

  -- a refusal writes nothing
  unwritten : (buffer : List ℕ) → ((reading_refusal reading (length buffer)).number ≡ 0 → ⊥) → reading_bounds reading buffer ≡ buffer
  unfolding reading_bounds
  unwritten buffer n = rw (ne_eqb (reading_refusal reading (length buffer)).number 0 n)

  pub written : (buffer bounds : List ℕ) → (reading_refusal reading (length buffer)).number ≡ 0 → analyse_set reading.set ≡ Accepted bounds → reading_bounds reading buffer ≡ bounds ++ drop (length bounds) buffer
  unfolding reading_bounds
  written buffer bounds e a = rw (eq-eqb (reading_refusal reading (length buffer)).number 0 e, a)

-- The two clauses of the contract.
abbrev Meets : Reading → List ℕ → Result ⊤ Refusal → List ℕ → Type 0
Meets reading buffer answer after = (answer ≡ answered (reading_refusal reading (length buffer))) × (after ≡ reading_bounds reading buffer)

module _ (reading : Reading) (buffer : List ℕ) (well : WellRead reading) where
  -- a refusal f
  refuses : (f : Refusal) → f ≡ reading_refusal reading (length buffer) → (f.number ≡ 0 → ⊥) → Meets reading buffer (Err f) buffer
  refuses f e n =
      (refusing f n ∙ ap answered e, sym (unwritten reading buffer (λ z. n (ap (λ (r : Refusal). r.number) e ∙ z))))

  pub meets_unread : (f : Refusal) → reading.refusal ≡ Err f → Meets reading buffer (Err f) buffer
  meets_unread f e =
      let n = refused_as (carried reading.refusal) reading.refusal f well.answers e in
      let c : carried reading.refusal ≡ f = ap carried e in
      refuses f (sym (unread reading (length buffer) n ∙ c)) (λ z. n (ap (λ (r : Refusal). r.number) c ∙ z))

  module _ (nothing : ⊤) (read : reading.refusal ≡ Ok nothing) where
    reads : (carried reading.refusal).number ≡ 0
    reads = accepted_as (carried reading.refusal) reading.refusal nothing well.answers read

    pub meets_no_room : length buffer < reading.set.count → (f : Refusal) → f ≡ refused ROOM 0 → Meets reading buffer (Err f) buffer
    meets_no_room h f e =
        refuses f (e ∙ sym (roomless reading (length buffer) reads h)) (λ z. omega (arith, z, ap (λ (r : Refusal). r.number) e))

    module _ (room : reading.set.count ≤ length buffer) where
      pub meets_refused : (f : Refusal) → Refuses reading.set f → Meets reading buffer (Err f) buffer
      meets_refused f r = refuses f (r.refusal_is ∙ sym (worked_out reading (length buffer) reads room)) r.some

      pub meets_accepted : (bounds : List ℕ) → Accepts reading.set bounds → (after : List ℕ) → after ≡ take reading.set.count bounds ++ drop reading.set.count buffer → Meets reading buffer (Ok (tt {0})) after
      meets_accepted bounds a after e =
          let w = well.formed reads in
          let l : length (take reading.set.count bounds) ≡ reading.set.count = length-take-le reading.set.count bounds (omega (arith, a.long, w.rows_most)) in
          let o : reading_refusal reading (length buffer) ≡ accepted = worked_out reading (length buffer) reads room ∙ ap refusal_of a.outcome in
          let b = written reading buffer (take reading.set.count bounds) (ap (λ (r : Refusal). r.number) o) a.outcome in
          (ap answered (sym o), e ∙ sym (b ∙ ap (λ (n : ℕ). take reading.set.count bounds ++ drop n buffer) l))

-- The analysis of a sheet is that of what is read.
pub meets_read : (s buffer : List ℕ) (reading : Reading) (answer : Result ⊤ Refusal) (after : List ℕ) → reading ≡ read_sheet s → Meets reading buffer answer after
    → (answer ≡ answered (analyse_refusal s (length buffer))) × (after ≡ analysed s buffer)
unfolding analyse_refusal analysed
meets_read s buffer reading answer after e m = subst (λ (r : Reading). Meets r buffer answer after) e m
