-- The argument, in reading order. It is over one row i of a processor p at a time; the rows of higher-ranked processors come first.
--
-- Ranks, Orderly     what is always true of a reachable snapshot
-- Done, Since        all cumulative quantities are read off a snapshot; how the releases since an earlier one are spaced
-- Interference       a row of a higher-ranked processor does at most its term of A(x) in x ticks
-- Window             the invariant: nothing is pending at row i's level, or a window is open
-- Pending, Demands   laws of what is pending, of progress, and of the equations' right sides
-- Accounting         each tick of a window brings progress, and what can make progress is bounded
-- Instances          from the invariant to the bound
-- Releasing, Taking, Running, Invariant     a window opens at a release, and each step keeps the invariant
-- Soundness          the theorem, by induction on the processor, and what follows from it
-- Blocking           what may serve as B
pub mod Ranks
pub mod Orderly
pub mod Done
pub mod Since
pub mod Interference
pub mod Window
pub mod Pending
pub mod Demands
pub mod Accounting
pub mod Instances
pub mod Releasing
pub mod Taking
pub mod Running
pub mod Invariant
pub mod Soundness
pub mod Blocking
