use mathlib.Core.List.{append_assoc}
use Rattle.report.specs.Report.{row_line}
use Rattle.text.proofs.PuttingLaws.{adds_then}
use Rattle.report.proofs.put_row.Goals as goal

pub returns : goal.returns
unfolding row_line
returns c = simp (append_assoc, c.from.ensures, c.from-2.ensures, c.from-3.ensures) at
    (adds_then
    c.put_field.ensures
    (adds_then
    c.put_field-2.ensures
    (adds_then c.put_field-3.ensures c.put_field-4.ensures)))
