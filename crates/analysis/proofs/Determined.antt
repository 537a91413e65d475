-- How far the contract reaches: two answers that meet it are equal, and so are two final buffers; and what the answer carries.
use Prim.Native.Nat.{ℕ}
use mathlib.Core.Path.{◌≡◌, refl, sym, subst, ◌∙◌}
use mathlib.Core.List.{List}
use mathlib.Core.Logic.{⊎_elim}
use native.Mathlib.Omega.{arith}
use lib.ListN.{length}
use Rattle.sheet.specs.declared.Refusal.{Refusal}
use Rattle.std.specs.Prelude.{⊤, Result}
use Rattle.sheet.specs.Refusals.{carried, answered, or_else, Carries}
use Rattle.sheet.specs.Reading.{read_sheet}
use Rattle.sheet.proofs.RefusalFields.{whole, or_carries, read_carries}
use Rattle.sheet.proofs.ReadingLaws.{read_carried}
use Rattle.analysis.specs.Bounds.{Outcome, Accepted, BusyAt, LateAt, analyse_set}
use Rattle.analysis.specs.Analysis.{refusal_of, room_refusal, reading_refusal, analyse_refusal, analysed}

pub analyse_determined : (sheet before : List ℕ) (a b : Result ⊤ Refusal) (after after' : List ℕ)
    → (a ≡ answered (analyse_refusal sheet (length before))) × (after ≡ analysed sheet before)
    → (b ≡ answered (analyse_refusal sheet (length before))) × (after' ≡ analysed sheet before)
    → (a ≡ b) × (after ≡ after')
analyse_determined sheet before a b after after' p q = (p.0 ∙ sym q.0, p.1 ∙ sym q.1)

of_rows : (o : Outcome) → Carries (refusal_of o)
of_rows (Accepted bounds) = whole 0
of_rows (BusyAt i) =
    record { no_row = ⊎_elim (λ h. absurd (omega (arith, h))) (λ h. absurd (omega (arith, h))); no_instance = λ h. refl }
of_rows (LateAt i q) =
    record { no_row = ⊎_elim (λ h. absurd (omega (arith, h))) (λ h. absurd (omega (arith, h))); no_instance = λ h. absurd (h refl) }

-- The row is 0 but for 5 to 11, the instance but for 11.
pub analyse_carries : (sheet : List ℕ) (places : ℕ) → Carries (analyse_refusal sheet places)
unfolding analyse_refusal reading_refusal
analyse_carries sheet places =
    let set = (read_sheet sheet).set in
    let rows = refusal_of (analyse_set set) in
    let room = room_refusal set.count places in
    or_carries (carried (read_sheet sheet).refusal) (or_else room rows) (subst Carries (sym (read_carried sheet)) (read_carries sheet)) (or_carries room rows (whole room.number) (of_rows (analyse_set set)))
