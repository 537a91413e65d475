use Rattle.laws.specs.ChoiceLaws.{chain}
use Rattle.sheet.specs.Ranges.{count_fault}
use Rattle.sheet.proofs.count_fault.Goals as goal

pub returns-then-processors-eq0 : goal.returns-then-processors-eq0
unfolding count_fault
returns-then-processors-eq0 c = search chain depth 16

pub returns-then-processors-gt-MOST_PROCESSORS : goal.returns-then-processors-gt-MOST_PROCESSORS
unfolding count_fault
returns-then-processors-gt-MOST_PROCESSORS c = search chain depth 16

pub returns-then-count-gt-MOST_ROWS : goal.returns-then-count-gt-MOST_ROWS
unfolding count_fault
returns-then-count-gt-MOST_ROWS c = search chain depth 16

pub returns : goal.returns
unfolding count_fault
returns c = search chain depth 16
