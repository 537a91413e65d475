use lib.ListN.{length}
use Rattle.sheet_text.specs.Parts.{lines_left}
use Rattle.sheet_text.proofs.RowsLaws as laws
use Rattle.sheet_text.proofs.lines.Lines.rows.Given as goal

abbrev pub invariant-loop-line : goal.invariant-loop-line
invariant-loop-line l = laws.Taken (lines_left l.initial.self) (lines_left l.self) l.rows l.count

abbrev pub decreases-loop-line : goal.decreases-loop-line
decreases-loop-line l = length l.self.left.now
