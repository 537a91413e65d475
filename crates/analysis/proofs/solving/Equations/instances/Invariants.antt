use Rattle.analysis.specs.Parts.{said}
use Rattle.analysis.proofs.InstanceLoop.{Done}
use Rattle.analysis.proofs.solving.Equations.instances.Given as goal

abbrev pub invariant-loop-q : goal.invariant-loop-q
invariant-loop-q l = Done (said l.self) l.self.row.deadline l.length l.best l.from l.q
