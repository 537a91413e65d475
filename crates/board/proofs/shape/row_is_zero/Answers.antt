use Rattle.board.specs.Shape.{row_is_zero}
use Rattle.board.proofs.Zeros.{sum_zero}
use Rattle.board.proofs.shape.row_is_zero.Goals as goal

pub returns : goal.returns
unfolding row_is_zero
returns c = simp (c.from.ensures, c.from-2.ensures, c.from-3.ensures, c.from-4.ensures, c.from-5.ensures, sum_zero)
