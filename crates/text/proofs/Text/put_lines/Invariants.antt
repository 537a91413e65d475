use Rattle.text.specs.Lines.{lines_to}
use Rattle.text.specs.Putting.{Adds}
use Rattle.text.proofs.Text.put_lines.Given as goal

-- The lines of the numbers so far are put.
abbrev pub invariant-loop-i : goal.invariant-loop-i
invariant-loop-i g l = Adds (lines_to (g.L.PutLine.line_of l.lines) l.i) l.initial.self l.self
