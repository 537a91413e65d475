-- The first index that passes a test, and a test of all.
use Rattle.std.specs.Prelude.{ℕ, zero, suc, Bool, true, false}

-- the first of i, i + 1, .. that passes f, of n; i + n where none does
unfoldable pub first_from : (ℕ → Bool) → ℕ → ℕ → ℕ
first_from f i zero = i
first_from f i (suc n) = elim (f i) [ true ↦ i | false ↦ first_from f (suc i) n ]

-- the first of 0, 1, .. n - 1 that passes f; n where none does
abbrev pub first : ℕ → (ℕ → Bool) → ℕ
first n f = first_from f 0 n

-- f passes at each of i, i + 1, .., n of them
unfoldable pub all_from : (ℕ → Bool) → ℕ → ℕ → Bool
all_from f i zero = true
all_from f i (suc n) = elim (f i) [ true ↦ all_from f (suc i) n | false ↦ false ]

-- f passes at each of 0, 1, .. n - 1
abbrev pub all : ℕ → (ℕ → Bool) → Bool
all n f = all_from f 0 n
