use native.Mathlib.Omega.{arith}
use mathlib.Core.Path.{ap, ◌∙◌}
use Rattle.std.proofs.lemmas.Result.{err_from_is_err_and}
use Rattle.sheet.specs.declared.Row.{Row}
use Rattle.sheet_text.specs.Faults.{no_fault}
use Rattle.sheet_text.specs.Meaning.{faulty_numbers}
use Rattle.sheet_text.proofs.NumberLaws.{first_fits_byte, row_alone}
use Rattle.sheet_text.proofs.MeaningLaws.{row_good, row_faulty, row_is}
use Rattle.sheet_text.proofs.lines.Line.row.Goals as goal

pub returns-then-k-ge-MOST_ROWS : goal.returns-then-k-ge-MOST_ROWS
returns-then-k-ge-MOST_ROWS c =
    row_is _ _ _ _ (ap faulty_numbers c.fault.ensures ∙ row_faulty _ _ c.args.self.now.content.now _ c.length_before.ensures.value (omega arith))

pub returns-in_err-processor : goal.returns-in_err-processor
returns-in_err-processor c =
    let p = err_from_is_err_and c.from_residual.result c.from_residual.ensures.1 in
    rw (p.1, p.2) (row_is _ _ _ _ (c.in_err-processor.ensures ∙ row_good _ _ _ (omega arith)))

pub overflow_cast-result : goal.overflow_cast-result
overflow_cast-result c = omega (arith, first_fits_byte 4 _ _ _ c.in_ok-processor.field-0 c.in_ok-processor.ensures)

pub returns : goal.returns
returns c =
    ap (λ (r : Row). record { fault = no_fault; row = r }) (row_alone c.in_ok-processor.field-0)
    ∙ row_is _ _ _ _ (c.in_ok-processor.ensures ∙ row_good _ _ _ (omega arith))
