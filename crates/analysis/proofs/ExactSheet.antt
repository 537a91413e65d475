-- For a sheet that reads, with room for its bounds, the direct reading says exactly one outcome, and the analysis gives it:
-- its refusal, with the row and the instance, and its bounds.
use Prim.Native.Nat.{ℕ, ◌≤◌}
use mathlib.Core.Path.{◌≡◌, refl, sym, ap, ◌∙◌}
use mathlib.Core.List.{List}
use mathlib.Core.Logic.{◌↔◌, inl, inr, ⊎_elim}
use native.Mathlib.Omega.{arith}
use lib.ListN.{length}
use borrow.Author.Tests.{eq-eqb}
use Rattle.laws.specs.Choice.{pick}
use Rattle.sheet.specs.declared.Set.{Set}
use Rattle.sheet.specs.declared.Refusal.{Refusal}
use Rattle.sheet.specs.Refusals.{accepts, carried}
use Rattle.sheet.specs.Reading.{read_refusal, set_of, read_sheet}
use Rattle.sheet.proofs.ReadingLaws.{well_formed, read_carried}
use Rattle.analysis.specs.Bounds.{Outcome, Accepted, BusyAt, LateAt, analyse_set}
use Rattle.analysis.specs.Analysis.{refusal_of, reading_refusal, filled, reading_bounds, analyse_refusal, analysed}
use Rattle.analysis.specs.Direct.{Says, TurnedDown}
use Rattle.analysis.proofs.AnalysisCases.{worked_out}
use Rattle.analysis.proofs.Exact.{given_said, said_given}

fills : (o : Outcome) (buffer : List ℕ) → pick (accepts (refusal_of o)) (filled o buffer) buffer ≡ filled o buffer
fills (Accepted bounds) buffer = refl
fills (BusyAt i) buffer = refl
fills (LateAt i q) buffer = refl

down_of : (set : Set) (o : Outcome) → Says set o → ((refusal_of o).number ≡ 0 → ⊥) → TurnedDown set
down_of set (Accepted bounds) h n = absurd (n refl)
down_of set (BusyAt i) h n = (i, inl h)
down_of set (LateAt i q) h n = (i, inr (q, h))

down_number : (o o' : Outcome) → o' ≡ o → ((refusal_of o').number ≡ 0 → ⊥) → (refusal_of o).number ≡ 0 → ⊥
down_number o o' e n z = n (ap (λ (x : Outcome). (refusal_of x).number) e ∙ z)

down_is : (set : Set) (o : Outcome) → ((o' : Outcome) → Says set o' → o' ≡ o) → TurnedDown set → (refusal_of o).number ≡ 0 → ⊥
down_is set o u d =
    ⊎_elim
    (λ h. down_number o (BusyAt d.0) (u (BusyAt d.0) h) (λ z. omega (arith, z)))
    (λ h. down_number o (LateAt d.0 h.0) (u (LateAt d.0 h.0) h.1) (λ z. omega (arith, z)))
    d.1

module _ (s : List ℕ) (reads : (read_refusal s).number ≡ 0) where
  set_is : (read_sheet s).set ≡ set_of s
  unfolding read_sheet
  set_is = rw (eq-eqb (read_refusal s).number 0 reads)

  reading_is : (carried (read_sheet s).refusal).number ≡ 0
  reading_is = ap (λ (r : Refusal). r.number) (read_carried s) ∙ reads

  module _ (buffer : List ℕ) (room : (set_of s).count ≤ length buffer) where
    room_is : (read_sheet s).set.count ≤ length buffer
    room_is = rw set_is room

    refusal_is : reading_refusal (read_sheet s) (length buffer) ≡ refusal_of (analyse_set (read_sheet s).set)
    refusal_is = worked_out (read_sheet s) (length buffer) reading_is room_is

    bounds_are : reading_bounds (read_sheet s) buffer ≡ filled (analyse_set (read_sheet s).set) buffer
    unfolding reading_bounds
    bounds_are = rw refusal_is (fills (analyse_set (read_sheet s).set) buffer)

    pub sheet_exact : (o : Outcome) × Says (set_of s) o × (analyse_refusal s (length buffer) ≡ refusal_of o) × (analysed s buffer ≡ filled o buffer)
        × ((o' : Outcome) → Says (set_of s) o' → o' ≡ o)
    unfolding analyse_refusal analysed
    sheet_exact =
        let w = well_formed s reads in (
          analyse_set (set_of s),
          given_said (set_of s) w,
          refusal_is ∙ ap (λ (x : Set). refusal_of (analyse_set x)) set_is,
          bounds_are ∙ ap (λ (x : Set). filled (analyse_set x) buffer) set_is,
          λ o h. sym (said_given (set_of s) w o h),
        )

    -- It is turned down exactly where some row has no busy length within the limit, or an instance that passes the deadline.
    pub turned_down : ((analyse_refusal s (length buffer)).number ≡ 0 → ⊥) ↔ TurnedDown (set_of s)
    turned_down =
        let t = sheet_exact in
        let e = ap (λ (r : Refusal). r.number) t.2 in
        (λ n. down_of (set_of s) t.0 t.1 (λ z. n (e ∙ z)), λ d z. down_is (set_of s) t.0 t.4 d (sym e ∙ z))
