use Rattle.std.specs.Prelude.{◌≡◌, ℕ, ◌<◌, take, get_or}
use Rattle.std.proofs.Common.{sym, ap, ap₂, ◌∙◌, arith, get_or-take}
use Rattle.std.proofs.lemmas.Result.{err_from_is_err_and}
use native.Mathlib.Numerals.{add-one}
use Rattle.sheet.specs.Refusals.{fault_number, refused, answered}
use Rattle.sheet.specs.Ranges as ranges
use Rattle.sheet.specs.declared.Row.{Row}
use Rattle.sheet.specs.declared.Set.{Set}
use Rattle.sheet.proofs.AnswerLaws as answers
use Rattle.sheet.proofs.Faults as faults
use Rattle.sheet.proofs.set_refusal.Goals as goal
use Rattle.sheet.proofs.set_refusal.Goals.{After-row_fault, In_ok-at_row}

row_is : (i : ℕ) (set : Set) → i < set.count → get_or (take set.count set.rows) i ranges.zero_row ≡ ranges.row_in set i
row_is i set h = get_or-take set.count set.rows i ranges.zero_row h

fault_is : (c : After-row_fault) → fault_number c.row_fault.result ≡ ranges.set_row_fault (c.args.set.now) c.loop-i.i
unfolding ranges.set_row_fault
fault_is c =
    let set = c.args.set.now in
    c.row_fault.ensures ∙ ap₂ (λ (before : ℕ) (row : Row). ranges.row_fault set.processors before row) c.loop-i.invariant.last (row_is c.loop-i.i set (omega arith))

pub returns-in_err-at_row : goal.returns-in_err-at_row
unfolding ranges.set_refusal
returns-in_err-at_row c =
    let p = err_from_is_err_and c.from_residual.result c.from_residual.ensures.1 in
    let stop = answers.stopped _ _ _ _ c.at_row.ensures c.in_err-at_row.was in
    let e = c.count_fault.ensures in
    rw (p.1, p.2) (sym c.in_err-at_row.was ∙ c.at_row.ensures ∙ ap answered (ap (λ (k : ℕ). refused k 0) e ∙ sym (faults.or_first _ _ (λ z. stop (e ∙ z)))))

counts_fit : (c : In_ok-at_row) → faults.Counts c.args.set.now.processors c.args.set.now.count
counts_fit c = faults.counts_of _ _ (sym c.count_fault.ensures ∙ answers.went_on _ _ _ _ c.at_row.ensures c.in_ok-at_row.was)

pub shared_ref_as_front-row-items : goal.shared_ref_as_front-row-items
shared_ref_as_front-row-items c = let h = (counts_fit (goal.at.shared_ref_as_front-row-items c).In_ok-at_row).rows in omega arith

pub returns-in_err-at_row-2 : goal.returns-in_err-at_row-2
unfolding ranges.set_refusal
returns-in_err-at_row-2 c =
    let g = c.loop-i.invariant in
    let p = err_from_is_err_and c.from_residual-in_err-at_row-2.result c.from_residual-in_err-at_row-2.ensures.1 in
    let stop = answers.stopped _ _ _ _ c.at_row-in-loop-i.ensures c.in_err-at_row-2.was in
    let f = fault_is (goal.at.returns-in_err-at_row-2 c).After-row_fault in
    rw (p.1, p.2)
    (sym c.in_err-at_row-2.was ∙ c.at_row-in-loop-i.ensures ∙ ap answered (sym (faults.or_second _ _ g.counts ∙ faults.clear_stop _ _ _ _ g.clear (omega arith) f stop)))

pub loop-i-preserved : goal.loop-i-preserved
loop-i-preserved c =
    let g = c.loop-i.invariant in
    let i = c.loop-i.i in
    let went = answers.went_on _ _ _ _ c.at_row-in-loop-i.ensures c.in_ok-at_row-2.was in
    record {
      counts = g.counts;
      few = g.few;
      last = rw (add-one i) (ap (λ (row : Row). row.processor) (row_is i c.args.set.now (omega arith)));
      clear = faults.clear_more _ _ _ g.clear (omega arith) (sym (fault_is (goal.at.loop-i-preserved c).After-row_fault) ∙ went);
    }

pub returns : goal.returns
unfolding ranges.set_refusal
returns c = let g = c.loop-i.invariant in
    ap answered (sym (faults.or_second _ _ g.counts ∙ faults.clear_all _ _ _ g.clear (omega arith)))
