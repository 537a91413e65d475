use mathlib.Core.List.{append_assoc}
use Rattle.text.specs.Refusing.{refused_line}
use Rattle.text.proofs.PuttingLaws.{adds_then}
use Rattle.text.proofs.Text.put_refusal.Goals as goal

pub returns : goal.returns
unfolding refused_line
returns c = simp (append_assoc, c.from.ensures, c.from-2.ensures) at
    (adds_then
    c.put.ensures
    (adds_then
    c.put_field.ensures
    (adds_then c.put_field-2.ensures c.put_field-3.ensures)))
