use mathlib.Core.Path.{refl, sym}
use native.Mathlib.Omega.{arith}
use Rattle.laws.specs.LeastLaws.{climb_on, climb_found, climb_past}
use Rattle.analysis.specs.Equations.{limit, busy_length}
use Rattle.analysis.proofs.Lawful.{busy_mono}
use Rattle.analysis.proofs.InstancesExist.{busy_at_1}
use Rattle.analysis.proofs.EquationLaws.{held_rising, held_lawful}
use Rattle.analysis.proofs.solving.Equations.busy_length.Goals as goal

pub loop-x-init : goal.loop-x-init
loop-x-init c = (record { same = refl; rises = busy_at_1 _ (held_lawful _ _ _ _ c.args.self.now.fit) }, omega arith)

pub returns-then-y-x : goal.returns-then-y-x
unfolding busy_length
returns-then-y-x c = sym (climb_found _ limit 1 _ _ c.loop-x.invariant.0 c.busy_at-y.ensures c.if-y-x.true c.loop-x-test.true)

pub loop-x-preserved : goal.loop-x-preserved
loop-x-preserved c = let t = climb_on _ limit (busy_mono _ (held_rising _ _ _ _)) 1 _ _ c.loop-x.invariant.0 c.busy_at-y.ensures c.if-y-x.false in (t.0, omega (arith, t.1))

pub returns : goal.returns
unfolding busy_length
returns c = sym (climb_past _ limit 1 _ c.loop-x.invariant.0 c.loop-x-test.false)
