use Rattle.std.specs.Prelude.{◌≡◌, ℕ, ◌+◌, ◌-◌, ◌/◌, ◌%◌, ◌≤◌, List, ◌++◌, length, take, drop}
use Rattle.std.proofs.Common.{sym, ap, ap₂, ◌∙◌, arith}
use Rattle.std.proofs.lemmas.Result.{err_from_is_err_and}
use lib.ListN.{length-set}
use Rattle.sheet.specs.Refusals.{answered}
use Rattle.sheet.specs.Layout as layout
use Rattle.sheet.specs.Ranges as ranges
use Rattle.sheet.proofs.AnswerLaws as answers
use Rattle.sheet.proofs.WritingLaws as laws
use Rattle.sheet.proofs.write.Invariants.{row_of}
use Rattle.sheet.proofs.write.Goals as goal
use Rattle.sheet.proofs.write.Goals.{In_ok-set_refusal}

number_is : (c : In_ok-set_refusal) → (ranges.set_refusal c.args.set).number ≡ 0
number_is c =
    answers.accepted_as _ _ _ c.set_refusal.ensures c.in_ok-set_refusal.was

few_are : (c : In_ok-set_refusal) → c.args.set.count ≤ 32
few_are c =
    (laws.set_counts _ (number_is c)).rows

pub returns-in_err-set_refusal-clause-value : goal.returns-in_err-set_refusal-clause-value
returns-in_err-set_refusal-clause-value c =
    let p = err_from_is_err_and c.from_residual.result c.from_residual.ensures.1 in
    let w = laws.write_refused c.args.set c.args.out.now (answers.refused_as _ _ _ c.set_refusal.ensures c.in_err-set_refusal.was) in
    rw (p.1, p.2) (sym c.in_err-set_refusal.was ∙ c.set_refusal.ensures ∙ ap answered w.answer)

pub returns-in_err-set_refusal-clause-out_after : goal.returns-in_err-set_refusal-clause-out_after
returns-in_err-set_refusal-clause-out_after c =
    let w = laws.write_refused c.args.set c.args.out.now (answers.refused_as _ _ _ c.set_refusal.ensures c.in_err-set_refusal.was) in
    w.buffer

pub overflow_mul-size : goal.overflow_mul-size
overflow_mul-size c =
    let h = few_are (goal.at.overflow_mul-size c).In_ok-set_refusal in omega arith

pub overflow_add-size : goal.overflow_add-size
overflow_add-size c =
    let h = few_are (goal.at.overflow_add-size c).In_ok-set_refusal in omega arith

pub returns-then-out-size-clause-value : goal.returns-then-out-size-clause-value
returns-then-out-size-clause-value c =
    let w = laws.write_short _ _ (number_is (goal.at.returns-then-out-size-clause-value c).In_ok-set_refusal) c.if-out-size.true in
    rw c.new.ensures (answers.refusing _ (λ z. omega arith) ∙ ap answered w.answer)

pub returns-then-out-size-clause-out_after : goal.returns-then-out-size-clause-out_after
returns-then-out-size-clause-out_after c =
    let w = laws.write_short _ _ (number_is (goal.at.returns-then-out-size-clause-out_after c).In_ok-set_refusal) c.if-out-size.true in
    w.buffer

pub overflow_cast-size : goal.overflow_cast-size
overflow_cast-size c =
    let h = few_are (goal.at.overflow_cast-size c).In_ok-set_refusal in omega arith

pub overflow_cast-out : goal.overflow_cast-out
overflow_cast-out c =
    let h = few_are (goal.at.overflow_cast-out c).In_ok-set_refusal in omega arith

pub loop-i-init : goal.loop-i-init
loop-i-init c =
    let few = few_are (goal.at.loop-i-init c).In_ok-set_refusal in
    let size : ℕ = layout.length_for c.args.set.count in
    let e : size / 256 % 256 ≡ size / 256 = omega (arith, few) in
    record {
      few = few;
      within = omega arith;
      room = simp length-set (omega arith);
      long = simp length-set;
      same = rw (c.to_be_bytes.ensures, e) (laws.partly_none (row_of c.args.set.rows) _);
    }

pub loop-i-preserved : goal.loop-i-preserved
loop-i-preserved c = let l = c.loop-i in
    let g = l.invariant in
    let rows = c.args.set.rows in
    let o = laws.begun c.args.set c.args.out.now in
    let a : ℕ = layout.record_start l.i in
    let e =
    ap₂ (λ (xs ys : List ℕ). take a xs ++ (ys ++ drop (a + 18 - a) (drop a xs))) g.same c.put_record.ensures
    ∙ laws.partly_more (row_of rows) o l.i (omega arith)
    in
    record {
      few = g.few;
      within = omega arith;
      room = g.room;
      long = ap length e ∙ laws.length_partly (row_of rows) o (l.i + 1) (omega arith);
      same = e;
    }

pub returns-clause-value : goal.returns-clause-value
returns-clause-value c =
    let w = laws.write_done c.args.set c.args.out.now (number_is (goal.at.returns-clause-value c).In_ok-set_refusal) c.if-out-size.false in
    ap answered w.answer

pub returns-clause-out_after : goal.returns-clause-out_after
returns-clause-out_after c =
    let g = c.loop-i.invariant in
    let a = c.args in
    let w = laws.write_done a.set a.out.now (number_is (goal.at.returns-clause-out_after c).In_ok-set_refusal) c.if-out-size.false in
    let e : c.loop-i.i ≡ a.set.count = omega arith in
    g.same
    ∙ ap (λ (i : ℕ). laws.partly (row_of a.set.rows) (laws.begun a.set a.out.now) i) e
    ∙ laws.partly_all a.set a.out.now c.if-out-size.false
    ∙ w.buffer
