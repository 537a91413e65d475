use lib.ListN.{length}
use Rattle.sheet_text.proofs.LineLaws.{Looking}
use Rattle.sheet_text.proofs.lines.Lines.next_line.Given as goal

abbrev pub invariant-loop-line : goal.invariant-loop-line
invariant-loop-line l = Looking l.initial.self l.self

abbrev pub decreases-loop-line : goal.decreases-loop-line
decreases-loop-line l = length l.self.left.now
