use Rattle.text.proofs.PuttingLaws.{adds_then}
use Rattle.text.proofs.Text.put_field.Goals as goal

pub returns : goal.returns
returns c = adds_then c.put_number.ensures c.put_byte.ensures
