use Rattle.text.proofs.PuttingLaws.{adds_none}
use Rattle.sheet_text.proofs.put_reason.Goals as goal

pub returns-in_default : goal.returns-in_default
returns-in_default c = rw c.in_default.ensures.1 (adds_none _)
