use mathlib.Core.Path.{sym, ap}
use mathlib.Core.Bool.{Bool, ◌||◌}
use borrow.Author.Tests.{lt-leb, le-leb}
use Rattle.board.specs.Shape.{absent_with_zeros, at_most_clock, ever_or_zero}
use Rattle.board.proofs.Job.is_kept.Goals as goal
use Rattle.board.proofs.Job.is_kept.Goals.{then-clock-self-via-then-clock-self, then-clock-self-via-else-clock-self+then-clock-self-2, then-clock-self-via-else-clock-self+else-clock-self-2+then-clock-self-3}

pub returns-then-clock-self : goal.returns-then-clock-self
unfolding at_most_clock
returns-then-clock-self c =
    elim c.then-clock-self.branch [
      | then-clock-self-via-then-clock-self w ↦ rw (lt-leb _ _ w.if-clock-self.true)
      | then-clock-self-via-else-clock-self+then-clock-self-2 w ↦ rw (le-leb _ _ w.if-clock-self.false, lt-leb _ _ w.if-clock-self-2.true)
      | then-clock-self-via-else-clock-self+else-clock-self-2+then-clock-self-3 w ↦
          rw (le-leb _ _ w.if-clock-self.false, le-leb _ _ w.if-clock-self-2.false, lt-leb _ _ w.if-clock-self-3.true)
    ]

pub returns-then-self : goal.returns-then-self
unfolding at_most_clock ever_or_zero
returns-then-self c = rw (le-leb _ _ c.if-clock-self.false, le-leb _ _ c.if-clock-self-2.false, le-leb _ _ c.if-clock-self-3.false, c.if-self.true)

pub returns-else-self : goal.returns-else-self
unfolding at_most_clock ever_or_zero
returns-else-self c =
    rw (le-leb _ _ c.if-clock-self.false, le-leb _ _ c.if-clock-self-2.false, le-leb _ _ c.if-clock-self-3.false, c.absent_with_zeros.ensures)
    (ap (λ (b : Bool). b || absent_with_zeros c.args.self) (sym c.if-self.false))
