use Prim.Native.Nat.{ℕ, ◌*◌}
use mathlib.Core.Path.{ap}
use native.Mathlib.Nat.{add-div_right}
use Rattle.sheet.specs.Ranges.{length_of}
use Rattle.analysis.proofs.entries.Entry.higher.Goals as goal

pub returns : goal.returns
returns c = λ x. ap (λ (z : ℕ). z * length_of c.args.row) (add-div_right x c.requires.period_some)
