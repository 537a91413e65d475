use native.Mathlib.Omega.{arith}
use mathlib.Core.Path.{◌≡◌}
use Rattle.text.proofs.PuttingLaws.{lines_none, lines_more}
use Rattle.text.proofs.Text.put_lines.Goals as goal

pub loop-i-init : goal.loop-i-init
loop-i-init g c = lines_none _ _

pub loop-i-preserved : goal.loop-i-preserved
loop-i-preserved g c = lines_more _ _ c.loop-i.invariant c.put_line.ensures

pub returns : goal.returns
returns g c =
    let all : c.loop-i.i ≡ c.args.count = omega arith in
    rw all at c.loop-i.invariant
