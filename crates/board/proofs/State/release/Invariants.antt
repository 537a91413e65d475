use Rattle.board.proofs.Checking.{RowsPassed, PastPassed, HandsPassed}
use Rattle.board.proofs.State.release.Given as goal

abbrev pub invariant-loop-i : goal.invariant-loop-i
invariant-loop-i l = RowsPassed (record { set = l.set; clock = l.clock; hands = l.hands; jobs = l.jobs }) l.before l.i

abbrev pub invariant-loop-i-2 : goal.invariant-loop-i-2
invariant-loop-i-2 l = PastPassed (record { set = l.set; clock = l.clock; hands = l.hands; jobs = l.jobs }) l.i

abbrev pub invariant-loop-h : goal.invariant-loop-h
invariant-loop-h l = HandsPassed (record { set = l.set; clock = l.clock; hands = l.hands; jobs = l.jobs }) l.h
