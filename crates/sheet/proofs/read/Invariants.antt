use Rattle.std.specs.Prelude.{◌≡◌, ℕ, ◌≤◌, List}
use Rattle.sheet.specs.declared.Set.{Set}
use Rattle.sheet.proofs.ReadingLaws as laws
use Rattle.sheet.proofs.read.Given as goal

pub record Going (s : List ℕ) (processors count : ℕ) (set : Set) (i : ℕ) : Type 0 where
  pub begun : laws.Begun s processors count
  pub within : i ≤ count
  pub stored : set ≡ laws.stored_to s processors count i

abbrev pub invariant-loop-i : goal.invariant-loop-i
invariant-loop-i l = Going l.sheet l.initial.set.processors l.initial.set.count l.set l.i
