-- Choices: one of two values, and the first line of a table that applies.
use Rattle.std.specs.Prelude.{ℕ, Bool, true, false, List, [], ◌∷◌}

abbrev pub pick {ℓ} : {A : Type ℓ} → Bool → A → A → A
pick true a b = a
pick false a b = b

-- A line of a table of refusals: a test, and the number given where it holds.
pub record Line : Type 0 where
  pub test : Bool
  pub number : ℕ

infix 75 ◌gives◌
abbrev pub ◌gives◌ : Bool → ℕ → Line
t gives n = record { test = t; number = n }

-- The number of the first line whose test holds; 0 if none does.
unfoldable pub first_of : List Line → ℕ
first_of [] = 0
first_of (l ∷ more) = pick l.test l.number (first_of more)
