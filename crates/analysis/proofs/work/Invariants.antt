use mathlib.Core.Path.{◌≡◌}
use Rattle.sheet.specs.Ranges.{row_in, before}
use Rattle.analysis.proofs.RowsHeld.{Rows}
use Rattle.analysis.proofs.work.Given as goal

abbrev pub invariant-loop-i : goal.invariant-loop-i
invariant-loop-i l = Rows l.set l.asking l.own l.bounds l.rank l.ranked l.pending l.first l.i-counter × (l.rank ≡ before (row_in l.set) l.i-counter)
