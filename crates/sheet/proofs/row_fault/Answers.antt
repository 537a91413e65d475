use Rattle.laws.specs.ChoiceLaws.{chain}
use Rattle.sheet.specs.Ranges.{row_fault}
use Rattle.sheet.proofs.row_fault.Goals as goal

pub returns-then-processors-row : goal.returns-then-processors-row
unfolding row_fault
returns-then-processors-row c = search chain depth 16

pub returns-then-row-before : goal.returns-then-row-before
unfolding row_fault
returns-then-row-before c = search chain depth 16

pub returns-then-row-eq0 : goal.returns-then-row-eq0
unfolding row_fault
returns-then-row-eq0 c = search chain depth 16

pub returns-then-row-gt-MOST_TICKS : goal.returns-then-row-gt-MOST_TICKS
unfolding row_fault
returns-then-row-gt-MOST_TICKS c = search chain depth 16

pub returns-then-row-eq0-2 : goal.returns-then-row-eq0-2
unfolding row_fault
returns-then-row-eq0-2 c = search chain depth 16

pub returns-then-row : goal.returns-then-row
unfolding row_fault
returns-then-row c = search chain depth 16

pub returns-then-row-gt-MOST_TICKS-2 : goal.returns-then-row-gt-MOST_TICKS-2
unfolding row_fault
returns-then-row-gt-MOST_TICKS-2 c = search chain depth 16

pub returns-then-row-gt-MOST_TICKS-3 : goal.returns-then-row-gt-MOST_TICKS-3
unfolding row_fault
returns-then-row-gt-MOST_TICKS-3 c = search chain depth 16

pub returns-then-row-eq0-3 : goal.returns-then-row-eq0-3
unfolding row_fault
returns-then-row-eq0-3 c = search chain depth 16

pub returns : goal.returns
unfolding row_fault
returns c = search chain depth 16
