use Rattle.std.specs.Prelude.{◌≡◌, ℕ, List}
use Rattle.sheet.specs.Layout as layout
use Rattle.sheet.specs.Ranges as ranges
use Rattle.sheet.specs.Reading as spec
use Rattle.sheet.proofs.Faults as faults
use Rattle.sheet.proofs.ReadingLaws as laws
use Rattle.sheet.proofs.check.Given as goal

-- The records below i have no fault, and `before` is the processor of the last of them.
pub record Going (s : List ℕ) (processors count before i : ℕ) : Type 0 where
  pub fault : spec.header_fault s ≡ 0
  pub head : laws.Header s
  pub procs : processors ≡ layout.processors_of s
  pub cnt : count ≡ layout.count_of s
  pub last : before ≡ ranges.before (layout.row_at s) i
  pub clear : faults.Clear (spec.record_fault s) (layout.count_of s) i

abbrev pub invariant-loop-i : goal.invariant-loop-i
invariant-loop-i l = Going l.sheet l.processors l.count l.before l.i
