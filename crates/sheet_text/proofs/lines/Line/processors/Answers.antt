use mathlib.Core.Path.{ap, ◌∙◌}
use native.Mathlib.Omega.{arith}
use Rattle.std.proofs.lemmas.Result.{err_from_is_err_and}
use Rattle.sheet_text.specs.Meaning.{faulty_numbers}
use Rattle.sheet_text.proofs.NumberLaws.{first_fits_byte, first_alone}
use Rattle.sheet_text.proofs.MeaningLaws.{first_faulty, first_good}
use Rattle.sheet_text.proofs.lines.Line.processors.Goals as goal

pub returns-then-ne : goal.returns-then-ne
returns-then-ne c =
    ap faulty_numbers c.fault.ensures
    ∙ first_faulty c.args.self.now.content.now c.length_before-start.ensures.value c.length_before.ensures.value _ c.as_slice.ensures c.ne.ensures c.if-ne.true

pub returns-in_err-processors : goal.returns-in_err-processors
returns-in_err-processors c =
    let p = err_from_is_err_and c.from_residual.result c.from_residual.ensures.1 in
    rw (p.1, p.2)
    (c.in_err-processors.ensures
    ∙ first_good c.args.self.now.content.now c.length_before-start.ensures.value c.length_before.ensures.value _ c.as_slice.ensures c.ne.ensures c.if-ne.false)

pub overflow_cast-result : goal.overflow_cast-result
overflow_cast-result c = omega (arith, first_fits_byte 0 _ _ _ c.in_ok-processors.field-0 c.in_ok-processors.ensures)

pub returns : goal.returns
returns c =
    first_alone c.in_ok-processors.field-0 ∙ c.in_ok-processors.ensures
    ∙ first_good c.args.self.now.content.now c.length_before-start.ensures.value c.length_before.ensures.value _ c.as_slice.ensures c.ne.ensures c.if-ne.false
