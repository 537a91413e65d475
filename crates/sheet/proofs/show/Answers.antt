use native.Mathlib.Omega.{arith}
use mathlib.Core.Path.{◌≡◌, sym, ◌∙◌}
use Prim.Native.Nat.{◌+◌, ◌*◌}
use native.Mathlib.Nat.{add-sub_cancel_left}
use Rattle.sheet.specs.Reading as spec
use Rattle.sheet.proofs.AnswerLaws as answers
use Rattle.sheet.proofs.ReadingLaws as laws
use Rattle.sheet.proofs.ShowingLaws as shown
use Rattle.sheet.proofs.show.Goals as goal
use Rattle.sheet.proofs.show.Goals.{Else-is_err}

number_is : (c : Else-is_err) → (spec.read_refusal c.args.sheet.now).number ≡ 0
number_is c =
    answers.accepted_by _ _ c.check.ensures (sym c.is_err.ensures.value ∙ c.if-is_err.false)

reads : (c : Else-is_err) → laws.Reads c.args.sheet.now
reads c =
    laws.reads _ (number_is c)

pub returns-then-is_err : goal.returns-then-is_err
returns-then-is_err c = let a = c.args in
    let h = shown.not_read a.sheet.now a.row (answers.refused_by _ _ c.check.ensures (sym c.is_err.ensures.value ∙ c.if-is_err.true)) in
    record { there = rw h; bytes = rw h }

pub bounds-sheet-4 : goal.bounds-sheet-4
bounds-sheet-4 c = let r = (reads (goal.at.bounds-sheet-4 c).Else-is_err) in omega arith

pub returns-then-count-row : goal.returns-then-count-row
returns-then-count-row c =
    let a = c.args in
    let h = shown.not_below a.sheet.now a.row (number_is (goal.at.returns-then-count-row c).Else-is_err) (omega arith) in
    record { there = rw h; bytes = rw h }

pub slice_bounds-result-end-2 : goal.slice_bounds-result-end-2
slice_bounds-result-end-2 c =
    let r = (reads (goal.at.slice_bounds-result-end-2 c).Else-is_err) in omega arith

pub returns : goal.returns
returns c =
    let a = c.args in
    let h = shown.is_shown_lem a.sheet.now a.row (number_is (goal.at.returns c).Else-is_err) (omega arith) in
    record { there = rw h; bytes = rw h (rw (add-sub_cancel_left (6 + 18 * a.row) 17)) }
