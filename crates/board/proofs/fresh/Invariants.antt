use mathlib.Core.Path.{◌≡◌}
use Rattle.board.specs.States.{start_set}
use Rattle.board.proofs.fresh.Given as goal

abbrev pub invariant-loop-i : goal.invariant-loop-i
invariant-loop-i l = l.state ≡ start_set l.fn.set
