-- Lists made of a function's values.
use Rattle.std.specs.Prelude.{ℕ, zero, suc, List, [], ◌∷◌, ltb}
use Rattle.laws.specs.Choice.{pick}

-- f i, f (i + 1), ..: n elements
unfoldable pub tab_from : {A : Type 0} → (ℕ → A) → ℕ → ℕ → List A
tab_from f i zero = []
tab_from f i (suc n) = f i ∷ tab_from f (suc i) n

-- f 0, f 1, .. f (n - 1)
abbrev pub tab : {A : Type 0} → ℕ → (ℕ → A) → List A
tab n f = tab_from f 0 n

-- f 0, f 1, .. f (k - 1), and z in the other places of n
abbrev pub padded : {A : Type 0} → ℕ → ℕ → (ℕ → A) → A → List A
padded n k f z = tab n (λ i. pick (ltb i k) (f i) z)
