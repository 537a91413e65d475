use Prim.Native.Nat.{suc, ◌-◌, ◌≤◌}
use Rattle.laws.specs.LeastLaws.{Climbs}
use Rattle.analysis.specs.Equations.{limit, busy_at}
use Rattle.analysis.specs.Parts.{said}
use Rattle.analysis.proofs.solving.Equations.busy_length.Given as goal

abbrev pub invariant-loop-x : goal.invariant-loop-x
invariant-loop-x l = Climbs (busy_at (said l.self)) limit 1 l.x × (1 ≤ l.x)

abbrev pub decreases-loop-x : goal.decreases-loop-x
decreases-loop-x l = suc limit - l.x
