-- Sums over the indices that pass a test.
use Rattle.std.specs.Prelude.{ℕ, Bool}
use Rattle.laws.specs.Choice.{pick}
use Rattle.laws.specs.Sums.{sum_to}

-- the sum of f j over the j below n that pass the test
unfoldable pub sum_where : (ℕ → Bool) → (ℕ → ℕ) → ℕ → ℕ
sum_where test f n = sum_to (λ j. pick (test j) (f j) 0) n
