use Rattle.board.proofs.Zeros.{zeros_summed}
use Rattle.board.proofs.Job.absent_with_zeros.Goals as goal

pub returns : goal.returns
returns c = rw (c.from.ensures, c.from-2.ensures, c.from-3.ensures, c.is_absent.ensures) (zeros_summed c.args.self)
