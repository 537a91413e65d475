use mathlib.Core.Path.{◌∙◌}
use borrow.Author.Tests.{eq-eqb, ne_eqb}
use Rattle.sheet.specs.Layout.{row_of}
use Rattle.sheet.specs.Reading.{row_of_part}
use Rattle.sheet.proofs.row_of.Goals as goal

pub returns-then-part-ne-PART_BYTES : goal.returns-then-part-ne-PART_BYTES
unfolding row_of_part
returns-then-part-ne-PART_BYTES c = c.no_row.ensures ∙ simp (ne_eqb _ _ c.if-part-ne-PART_BYTES.true)

pub returns : goal.returns
unfolding row_of_part row_of
returns c = simp (eq-eqb _ _ c.if-part-ne-PART_BYTES.false) (cc)
