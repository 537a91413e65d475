use native.Mathlib.Omega.{arith}
use Prim.Native.Nat.{◌≤◌}
use mathlib.Core.Path.{◌≡◌, refl, sym, ◌∙◌}
use lib.ListN.{length}
use Rattle.std.proofs.lemmas.Result.{err_from_is_err_and}
use Rattle.sheet.specs.Writing.{write_refusal}
use Rattle.sheet.proofs.AnswerLaws.{accepted_as}
use Rattle.sheet_text.proofs.FaultLaws.{number_high}
use Rattle.sheet_text.proofs.TextLaws.{compose_faulty, compose_written, compose_refused, compose_done, written_few}
use Rattle.sheet_text.proofs.compose.Goals as goal
use Rattle.sheet_text.proofs.compose.Goals.{In_ok-write}

taken : (c : In_ok-write) → (write_refusal c.in_ok-set.set (length c.args.out.now)).number ≡ 0
taken c = accepted_as _ _ _ c.write.ensures.value c.in_ok-write.was

few : (c : In_ok-write) → c.in_ok-set.set.count ≤ 32
few c = written_few _ _ (taken c)

pub returns-in_err-set-clause-value : goal.returns-in_err-set-clause-value
returns-in_err-set-clause-value c =
    let p = err_from_is_err_and c.from_residual.result c.from_residual.ensures.1 in
    rw (p.1, p.2) (compose_faulty _ c.in_err-set.ensures c.args.out.now (λ z. omega (arith, number_high c.in_err-set.field-0.0.wrong))).0

pub returns-in_err-set-clause-out_after : goal.returns-in_err-set-clause-out_after
returns-in_err-set-clause-out_after c = (compose_faulty _ c.in_err-set.ensures c.args.out.now (λ z. omega (arith, number_high c.in_err-set.field-0.0.wrong))).1

pub returns-in_err-write-clause-value : goal.returns-in_err-write-clause-value
returns-in_err-write-clause-value c =
    let p = err_from_is_err_and c.from_residual-in_err-write.result c.from_residual-in_err-write.ensures.1 in
    rw (p.1, p.2) (compose_refused _ c.in_ok-set.ensures refl c.args.out.now _ (sym c.in_err-write.was ∙ c.write.ensures.value))

pub returns-in_err-write-clause-out_after : goal.returns-in_err-write-clause-out_after
returns-in_err-write-clause-out_after c = c.write.ensures.out_after ∙ compose_written _ c.in_ok-set.ensures refl c.args.out.now

pub overflow_mul-result : goal.overflow_mul-result
overflow_mul-result c = omega (arith, few (goal.at.overflow_mul-result c).In_ok-write)

pub overflow_add-result : goal.overflow_add-result
overflow_add-result c = omega (arith, few (goal.at.overflow_add-result c).In_ok-write)

pub returns-clause-value : goal.returns-clause-value
returns-clause-value c = compose_done _ c.in_ok-set.ensures refl c.args.out.now (taken (goal.at.returns-clause-value c).In_ok-write)

pub returns-clause-out_after : goal.returns-clause-out_after
returns-clause-out_after c = c.write.ensures.out_after ∙ compose_written _ c.in_ok-set.ensures refl c.args.out.now
