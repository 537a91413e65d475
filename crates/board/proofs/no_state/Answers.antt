use mathlib.Core.Path.{ap, ◌∙◌}
use Rattle.board.specs.States.{start_set}
use Rattle.board.proofs.Answers.{start_zero}
use Rattle.board.proofs.no_state.Goals as goal

pub returns : goal.returns
returns c = c.fresh.ensures ∙ ap start_set c.no_set.ensures ∙ start_zero
