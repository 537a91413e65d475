use mathlib.Core.Path.{◌∙◌}
use native.Mathlib.Omega.{arith}
use Rattle.analysis.proofs.EquationLaws.{busy_sum}
use Rattle.analysis.proofs.solving.Equations.busy_at.Goals as goal

pub returns : goal.returns
returns c =
    omega (arith, c.from.ensures, busy_sum c.args.self.now.ranked.now c.args.self.now.higher.now c.args.self.now.row c.args.self.now.blocked c.args.self.now.fit c.args.x _ _ _ c.requires.0 c.sum-above.ensures.value (c.term-itself.ensures.value ∙ c.higher.ensures _) c.sum-token.ensures.value)
