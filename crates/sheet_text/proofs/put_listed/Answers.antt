use Rattle.sheet_text.proofs.TextLaws.{list_refused, list_accepted}
use Rattle.sheet_text.proofs.put_listed.Goals as goal

pub returns-in-Ok : goal.returns-in-Ok
returns-in-Ok c = rw (list_accepted _ _ c.read-reading.ensures _ c.in-Ok.is) at c.put_set.ensures

pub returns-in-Err : goal.returns-in-Err
returns-in-Err c = rw (list_refused _ _ c.read-reading.ensures _ c.in-Err.is) at c.put_refusal.ensures
