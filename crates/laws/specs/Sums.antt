-- Sums and maxima by index.
use Rattle.std.specs.Prelude.{ℕ, zero, suc, ◌+◌, max}

-- f 0 + f 1 + .. + f (n - 1)
unfoldable pub sum_to : (ℕ → ℕ) → ℕ → ℕ
sum_to f zero = 0
sum_to f (suc n) = sum_to f n + f n

-- the largest of f 0, f 1, .., f (n - 1); 0 if there is none
unfoldable pub max_to : (ℕ → ℕ) → ℕ → ℕ
max_to f zero = 0
max_to f (suc n) = max (max_to f n) (f n)
