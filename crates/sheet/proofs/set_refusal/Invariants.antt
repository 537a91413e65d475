use Rattle.std.specs.Prelude.{◌≡◌, ℕ, ◌≤◌}
use Rattle.sheet.specs.Ranges as ranges
use Rattle.sheet.specs.declared.Set.{Set}
use Rattle.sheet.proofs.Faults as faults
use Rattle.sheet.proofs.set_refusal.Given as goal

-- The rows below i have no fault, and `before` is the processor of the last of them.
pub record Going (set : Set) (before i : ℕ) : Type 0 where
  pub counts : ranges.count_fault set.processors set.count ≡ 0
  pub few : set.count ≤ 32
  pub last : before ≡ ranges.before (ranges.row_in set) i
  pub clear : faults.Clear (ranges.set_row_fault set) set.count i

abbrev pub invariant-loop-i : goal.invariant-loop-i
invariant-loop-i l = Going l.set l.before l.i
