use Rattle.std.proofs.Common.{length}
use Rattle.trials.proofs.board_cases.Play.carry_out_all.Given as goal

abbrev pub decreases-loop-letter : goal.decreases-loop-letter
decreases-loop-letter g l = length l.left
