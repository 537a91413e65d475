use mathlib.Core.Path.{◌≡◌, ap}
use mathlib.Core.Bool.{false, not}
use Rattle.laws.specs.ChoiceLaws.{hit, miss, none}
use Rattle.board.specs.Calls.{is_early}
use Rattle.board.proofs.Faults.{early, late, never}
use Rattle.board.proofs.Job.release_fault.Goals as goal
use Rattle.board.proofs.Job.release_fault.Goals.{After-is_absent, else-self-via-then-self+else-clock-self, else-self-via-else-self}

not_early : (c : After-is_absent) → is_early c.args.clock c.args.period c.args.self ≡ false
not_early c =
    elim c.else-self.branch [
      | else-self-via-then-self+else-clock-self w ↦ late _ _ c.args.self c.requires w.if-clock-self.false
      | else-self-via-else-self w ↦ never _ _ c.args.self c.requires w.if-self.false
    ]

pub returns-then-clock-self : goal.returns-then-clock-self
returns-then-clock-self c = hit _ _ _ (early _ _ c.args.self c.requires c.if-self.true c.if-clock-self.true)

pub returns-then-not-is_absent : goal.returns-then-not-is_absent
returns-then-not-is_absent c =
    miss _ _ _ _ (not_early (goal.at.returns-then-not-is_absent c).After-is_absent) (hit _ _ _ (ap not (rw c.is_absent.ensures at c.if-not-is_absent.true)))

pub returns : goal.returns
returns c = miss _ _ _ _ (not_early (goal.at.returns c).After-is_absent) (miss _ _ _ _ (ap not (rw c.is_absent.ensures at c.if-not-is_absent.false)) none)
