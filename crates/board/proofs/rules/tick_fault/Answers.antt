use Rattle.laws.specs.ChoiceLaws.{chain}
use Rattle.board.proofs.rules.tick_fault.Goals as goal

pub returns-then-not-fits : goal.returns-then-not-fits
returns-then-not-fits c = search chain depth 16

pub returns-then-clock-eq-MOST_CLOCK : goal.returns-then-clock-eq-MOST_CLOCK
returns-then-clock-eq-MOST_CLOCK c = search chain depth 16

pub returns : goal.returns
returns c = search chain depth 16
