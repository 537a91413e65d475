use Rattle.sheet.specs.Ranges.{most_processors}
use Rattle.board.proofs.Checking.{RowsPassed, PastPassed, HandsPassed}
use Rattle.board.proofs.Gathering.{Gathered}
use Rattle.board.proofs.Turning.{Turned}
use Rattle.board.proofs.State.tick.Given as goal

abbrev pub invariant-loop-i : goal.invariant-loop-i
invariant-loop-i l = RowsPassed (record { set = l.set; clock = l.clock; hands = l.hands; jobs = l.jobs }) l.before l.i × Gathered (record { set = l.set; clock = l.clock; hands = l.hands; jobs = l.jobs }) l.masks l.i

abbrev pub invariant-loop-i-2 : goal.invariant-loop-i-2
invariant-loop-i-2 l = PastPassed (record { set = l.set; clock = l.clock; hands = l.hands; jobs = l.jobs }) l.i

abbrev pub invariant-loop-h : goal.invariant-loop-h
invariant-loop-h l = HandsPassed (record { set = l.set; clock = l.clock; hands = l.hands; jobs = l.jobs }) l.h

abbrev pub invariant-loop-p : goal.invariant-loop-p
invariant-loop-p l = Turned most_processors (record { set = l.set; clock = l.clock; hands = l.initial.hands; jobs = l.initial.jobs }) (record { set = l.set; clock = l.clock; hands = l.hands; jobs = l.jobs }) l.token l.completed l.p
