-- The largest is one of them.
use Rattle.std.specs.Prelude.{ℕ, zero, suc, ◌≤◌, ◌<◌, max, ◌≡◌}
use Rattle.std.proofs.Common.{arith}
use Rattle.std.proofs.Math.Decide.{dec_le}
use Rattle.laws.specs.Sums.{max_to}

pub max_attained : (f : ℕ → ℕ) (n : ℕ) → 1 ≤ n → (q : ℕ) × (q < n) × (max_to f n ≡ f q)
unfolding max_to
max_attained f zero h = absurd (omega (arith, h))
max_attained f (suc n) h = go (dec_le (max_to f n) (f n)) (λ l. max_attained f n l)
  where
    go : Dec (max_to f n ≤ f n) → (1 ≤ n → (q : ℕ) × (q < n) × (max_to f n ≡ f q)) → (q : ℕ) × (q < suc n) × (max (max_to f n) (f n) ≡ f q)
    go (yes l) ih = (n, omega arith, omega arith)
    go (no l) ih =
        let t = ih (some n l) in
        (t.0, omega (arith, t.1), omega (arith, t.2))
      where
        some : (k : ℕ) → (max_to f k ≤ f k → ⊥) → 1 ≤ k
        some zero m = absurd (m (omega arith))
        some (suc k) m = omega arith
