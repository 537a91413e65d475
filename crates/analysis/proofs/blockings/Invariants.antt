use Rattle.analysis.proofs.BlockingLaws.{Blocked}
use Rattle.analysis.proofs.blockings.Given as goal

abbrev pub invariant-loop-j : goal.invariant-loop-j
invariant-loop-j l = Blocked l.set l.blocked l.j
