use Rattle.std.proofs.Common.{rules}
use Rattle.text.proofs.PuttingLaws.{puts_lent}
use Rattle.report.proofs.report.Goals as goal

pub returns : goal.returns
returns c = puts_lent c.new-text.ensures c.put_report.ensures (search rules) c.end.ensures
