-- A sum in parts.
use Rattle.std.specs.Prelude.{ℕ, zero, suc, ◌+◌, ◌-◌, ◌≤◌, ◌<◌, ◌≡◌}
use Rattle.std.proofs.Common.{ap, ◌∙◌, arith, add-zero, add-suc}
use Rattle.laws.specs.Sums.{sum_to}
use Rattle.laws.specs.SumLaws.{sum_zero, sum_same}

pub sum_parts : (f : ℕ → ℕ) (a d : ℕ) → sum_to f (a + d) ≡ sum_to f a + sum_to (λ k. f (a + k)) d
unfolding sum_to
sum_parts f a zero = rw add-zero (omega arith)
sum_parts f a (suc d) = rw add-suc (omega (arith, sum_parts f a d))

-- terms that are 0 add nothing
pub sum_rest : (f : ℕ → ℕ) (i n : ℕ) → i ≤ n → ((k : ℕ) → i ≤ k → k < n → f k ≡ 0) → sum_to f n ≡ sum_to f i
sum_rest f i n l h =
    let e : n ≡ i + (n - i) = omega arith in
    ap (sum_to f) e
    ∙ omega (arith, sum_parts f i (n - i), sum_zero (λ k. f (i + k)) (n - i) (λ k g. omega (arith, h (i + k) (omega arith) (omega arith))))

pub sum_nothing : (f : ℕ → ℕ) (n : ℕ) → ((k : ℕ) → k < n → f k ≡ 0) → sum_to f n ≡ 0
sum_nothing f n h = omega (arith, sum_zero f n (λ k g. omega (arith, h k g)))

-- where only the terms from i up to below j count
pub sum_middle : (f g : ℕ → ℕ) (i j n : ℕ) → i ≤ j → j ≤ n → ((k : ℕ) → k < i → f k ≡ 0) → ((k : ℕ) → i ≤ k → k < j → f k ≡ g k)
    → ((k : ℕ) → j ≤ k → k < n → f k ≡ 0) → sum_to f n ≡ sum_to (λ k. g (i + k)) (j - i)
sum_middle f g i j n a b below here above =
    let e : j ≡ i + (j - i) = omega arith in
    sum_rest f j n b above
    ∙ ap (sum_to f) e
    ∙ sum_parts f i (j - i)
    ∙ omega (arith, sum_nothing f i below, sum_same (λ k. f (i + k)) (λ k. g (i + k)) (j - i) (λ k h. here (i + k) (omega arith) (omega arith)))
