use native.Mathlib.Omega.{arith}
use Rattle.sheet.specs.Layout.{word_at}
use Rattle.sheet.proofs.word.Goals as goal

pub returns : goal.returns
unfolding word_at
returns c = omega arith
