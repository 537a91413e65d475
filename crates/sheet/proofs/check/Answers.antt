use Rattle.std.specs.Prelude.{◌≡◌, refl}
use Rattle.std.proofs.Common.{sym, ap, ◌∙◌, arith}
use Rattle.std.proofs.lemmas.Result.{err_from_is_err_and}
use native.Mathlib.Numerals.{add-one}
use Rattle.sheet.specs.Refusals.{fault_number, answered}
use Rattle.sheet.specs.Layout as layout
use Rattle.sheet.specs.Reading as spec
use Rattle.sheet.specs.declared.Row.{Row}
use Rattle.sheet.proofs.AnswerLaws as answers
use Rattle.sheet.proofs.Faults as faults
use Rattle.sheet.proofs.ReadingLaws as laws
use Rattle.sheet.proofs.check.Goals as goal
use Rattle.sheet.proofs.check.Goals.{After-row_fault, After-row_of-row, In_ok-at_row}

no_header_fault : (c : In_ok-at_row) → spec.header_fault c.args.sheet.now ≡ 0
no_header_fault c =
    sym c.header_fault.ensures ∙ answers.went_on _ _ _ _ c.at_row.ensures c.in_ok-at_row.was

header_is : (c : In_ok-at_row) → laws.Header c.args.sheet.now
header_is c =
    laws.header _ (no_header_fault c)

row_is : (c : After-row_of-row) → c.row_of-row.result ≡ layout.row_at (c.args.sheet.now) c.loop-i.i
row_is c =
    c.row_of-row.ensures ∙ laws.row_part _ _ (omega arith)

fault_is : (c : After-row_fault) → fault_number c.row_fault.result ≡ spec.record_fault (c.args.sheet.now) c.loop-i.i
fault_is c =
    let g = c.loop-i.invariant in
    c.row_fault.ensures ∙ cc (g.last, c.row_of-row.ensures ∙ laws.row_part c.args.sheet.now c.loop-i.i (omega arith), laws.record_row _ _ c.if-sheet-at-ne17.false)

pub returns-in_err-at_row : goal.returns-in_err-at_row
returns-in_err-at_row c =
    let p = err_from_is_err_and c.from_residual.result c.from_residual.ensures.1 in
    let stop = answers.stopped _ _ _ _ c.at_row.ensures c.in_err-at_row.was in
    rw (p.1, p.2) (sym c.in_err-at_row.was ∙ c.at_row.ensures ∙ ap answered (laws.header_refused _ _ c.header_fault.ensures stop))

pub bounds-sheet-3 : goal.bounds-sheet-3
bounds-sheet-3 c = let h = header_is (goal.at.bounds-sheet-3 c).In_ok-at_row in omega arith

pub bounds-sheet-4 : goal.bounds-sheet-4
bounds-sheet-4 c = let h = header_is (goal.at.bounds-sheet-4 c).In_ok-at_row in omega arith

pub loop-i-init : goal.loop-i-init
loop-i-init c =
    record {
      fault = no_header_fault (goal.at.loop-i-init c).In_ok-at_row;
      head = header_is (goal.at.loop-i-init c).In_ok-at_row;
      procs = refl;
      cnt = c.from-count.ensures;
      last = refl;
      clear = faults.clear_none _ _;
    }

pub returns-then-sheet-at-ne17 : goal.returns-then-sheet-at-ne17
returns-then-sheet-at-ne17 c =
    let g = c.loop-i.invariant in
    let e = c.new.ensures ∙ laws.record_refused _ _ _ g.fault g.clear (omega arith) (laws.record_length _ _ c.if-sheet-at-ne17.true) (λ z. omega arith) in
    rw c.new.ensures (answers.refusing _ (λ z. omega arith)) ∙ ap answered (sym c.new.ensures ∙ e)

pub returns-in_err-at_row-2 : goal.returns-in_err-at_row-2
returns-in_err-at_row-2 c =
    let g = c.loop-i.invariant in
    let p = err_from_is_err_and c.from_residual-in_err-at_row-2.result c.from_residual-in_err-at_row-2.ensures.1 in
    let stop = answers.stopped _ _ _ _ c.at_row-in-loop-i.ensures c.in_err-at_row-2.was in
    let f = fault_is (goal.at.returns-in_err-at_row-2 c).After-row_fault in
    rw (p.1, p.2) (sym c.in_err-at_row-2.was ∙ c.at_row-in-loop-i.ensures ∙ ap answered (laws.record_refused _ _ _ g.fault g.clear (omega arith) f stop))

pub loop-i-preserved : goal.loop-i-preserved
loop-i-preserved c =
    let g = c.loop-i.invariant in
    let i = c.loop-i.i in
    let went = answers.went_on _ _ _ _ c.at_row-in-loop-i.ensures c.in_ok-at_row-2.was in
    record {
      fault = g.fault;
      head = g.head;
      procs = g.procs;
      cnt = g.cnt;
      last = rw (add-one i) (ap (λ (r : Row). r.processor) (row_is (goal.at.loop-i-preserved c).After-row_of-row));
      clear = faults.clear_more _ _ _ g.clear (omega arith) (sym (fault_is (goal.at.loop-i-preserved c).After-row_fault) ∙ went);
    }

pub returns : goal.returns
returns c =
    let g = c.loop-i.invariant in
    ap answered (laws.none_refused _ _ g.fault g.clear (omega arith))
