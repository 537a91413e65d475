use mathlib.Core.Path.{◌∙◌}
use Rattle.text.proofs.DecimalLaws.{decimal_digits}
use Rattle.text.proofs.Text.put_number.Goals as goal

pub returns : goal.returns
returns c = let told = c.decimal-count.ensures in
    rw (told.digits ∙ decimal_digits _ _ told.len) at c.put.ensures
