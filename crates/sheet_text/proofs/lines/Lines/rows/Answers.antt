use native.Mathlib.Omega.{arith}
use mathlib.Core.Path.{refl}
use Rattle.std.proofs.lemmas.Result.{err_from_is_err_and}
use Rattle.laws.specs.TabulateLaws.{padded_none}
use Rattle.sheet.specs.Ranges.{most_rows, zero_row}
use Rattle.sheet_text.proofs.FaultLaws.{number_high}
use Rattle.sheet_text.proofs.RowsLaws as laws
use Rattle.sheet_text.proofs.lines.Lines.rows.Goals as goal

pub loop-line-init : goal.loop-line-init
loop-line-init c = laws.taken_none _ _ (rw c.no_row-rows.ensures (padded_none _ zero_row most_rows))

pub returns-in_err-rows : goal.returns-in_err-rows
returns-in_err-rows c =
    let p = err_from_is_err_and c.from_residual.result c.from_residual.ensures.1 in
    rw (p.1, p.2)
    (laws.taken_stop c.loop-line.invariant c.in-Some.ensures.0 c.in_err-rows.ensures _ (λ z. omega (arith, number_high c.in_err-rows.field-0.0.wrong)))

pub bounds-rows-count : goal.bounds-rows-count
bounds-rows-count c = laws.taken_few c.loop-line.invariant c.in-Some.ensures.0 c.in_ok-rows.ensures refl

pub loop-line-preserved : goal.loop-line-preserved
loop-line-preserved c = laws.taken_more c.loop-line.invariant c.in-Some.ensures.0 c.in_ok-rows.ensures refl

pub returns : goal.returns
returns c = laws.taken_all c.loop-line.invariant c.in_default.ensures.0 _
