use Prim.Native.Nat.{ℕ, ◌≤◌}
use mathlib.Core.Path.{◌≡◌}
use mathlib.Core.List.{List}
use lib.ListN.{length, drop}
use Rattle.sheet_text.specs.Words as spec
use Rattle.sheet_text.specs.Parts as parts
use Rattle.sheet_text.proofs.number_in.Given as goal

-- The bytes below i are digits as far as they tell, and the value so far is capped.
pub record Going (word : List ℕ) (value i : ℕ) : Type 0 where
  pub within : i ≤ length word
  pub most : value ≤ parts.too_large
  pub digits : spec.all_digits word ≡ spec.all_digits (drop i word)
  pub value_is : parts.capped (spec.value_of word) ≡ parts.capped (spec.value_from value (drop i word))

abbrev pub invariant-loop-byte : goal.invariant-loop-byte
invariant-loop-byte l = Going l.word l.value l.byte-index
