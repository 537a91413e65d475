use mathlib.Core.List.{append_assoc}
use Rattle.report.specs.Report.{accepted_line, accepted_text}
use Rattle.text.proofs.PuttingLaws.{adds_then}
use Rattle.report.proofs.put_accepted.Goals as goal

pub returns : goal.returns
unfolding accepted_text accepted_line
returns c =
    simp append_assoc (simp append_assoc at (adds_then c.put.ensures (adds_then c.put_field.ensures (adds_then c.put-2.ensures c.put_lines.ensures))))
