use Prim.Native.Nat.{◌<◌}
use mathlib.Core.Path.{refl, ap, ◌∙◌}
use mathlib.Core.List.{List}
use native.Mathlib.Omega.{arith}
use lib.ListN.{replicate, set}
use Rattle.std.specs.Prelude.{None}
use Rattle.sheet.specs.Ranges.{most_rows, most_processors}
use Rattle.board.specs.declared.Job.{Job}
use Rattle.board.specs.declared.State.{State}
use Rattle.board.specs.States.{no_job, start_set}
use Rattle.board.proofs.Answers.{stored_again}
use Rattle.board.proofs.fresh.Goals as goal

pub loop-i-init : goal.loop-i-init
unfolding start_set
loop-i-init c = refl

pub loop-i-preserved : goal.loop-i-preserved
unfolding start_set
loop-i-preserved c =
    let i = c.loop-i.i in
    let small : i < most_rows = omega arith in
    ap (λ (x : State). record { set = x.set; clock = x.clock; hands = x.hands; jobs = set x.jobs i no_job }) c.loop-i.invariant
    ∙ ap (λ (x : List Job). record { set = c.args.set; clock = 0; hands = replicate most_processors None; jobs = x }) (stored_again no_job i small)
