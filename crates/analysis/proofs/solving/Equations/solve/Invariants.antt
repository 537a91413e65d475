use Prim.Native.Nat.{◌-◌}
use Rattle.analysis.specs.Equations.{limit}
use Rattle.analysis.specs.Entries.{climb_at}
use Rattle.analysis.specs.Parts.{Warm}
use Rattle.analysis.proofs.solving.Equations.solve.Given as goal

abbrev pub invariant-loop-fixed : goal.invariant-loop-fixed
invariant-loop-fixed l = Warm (climb_at l.self.ranked.now l.higher l.fixed) l.x

abbrev pub decreases-loop-fixed : goal.decreases-loop-fixed
decreases-loop-fixed l = limit - l.x
