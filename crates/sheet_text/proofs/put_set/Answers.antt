use mathlib.Core.List.{append_assoc}
use Rattle.text.proofs.PuttingLaws.{adds_then}
use Rattle.sheet_text.specs.Listing.{first_text, listing}
use Rattle.sheet_text.proofs.put_set.Goals as goal

pub returns : goal.returns
unfolding listing first_text
returns c =
    simp append_assoc (simp (append_assoc, c.from.ensures) at (adds_then c.put.ensures (adds_then c.put_field.ensures (adds_then c.put-2.ensures c.put_lines.ensures))))
