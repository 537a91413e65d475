use Rattle.analysis.proofs.BlockingLaws.{blocked_first, blocked_more}
use Rattle.analysis.proofs.blockings.Goals as goal

pub loop-j-init : goal.loop-j-init
loop-j-init c = blocked_first _ c.requires

pub loop-j-preserved : goal.loop-j-preserved
loop-j-preserved c = blocked_more _ c.requires _ _ _ c.loop-j.invariant c.loop-j-test.true c.blocked_by.ensures
