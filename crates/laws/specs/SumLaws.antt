-- Laws of sums and maxima by index.
use Rattle.std.specs.Prelude.{ℕ, zero, suc, ◌+◌, ◌*◌, ◌≤◌, ◌<◌, max, ◌≡◌, refl}
use Rattle.std.proofs.Common.{sym, ap, ◌∙◌, ⊎_elim, arith, add-one, suc-mul}
use Rattle.laws.specs.Sums.{sum_to, max_to}
use Rattle.laws.specs.RoundingLaws.{split}

-- Sums.
pub sum_none : (f : ℕ → ℕ) → sum_to f 0 ≡ 0
unfolding sum_to
sum_none f = refl

-- the code's i + 1
pub sum_more : (f : ℕ → ℕ) (n : ℕ) → sum_to f (n + 1) ≡ sum_to f n + f n
unfolding sum_to
sum_more f n = rw add-one

pub sum_mono : (f g : ℕ → ℕ) (n : ℕ) → ((k : ℕ) → k < n → f k ≤ g k) → sum_to f n ≤ sum_to g n
unfolding sum_to
sum_mono f g zero h = omega arith
sum_mono f g (suc n) h = omega (arith, sum_mono f g n (λ k l. h k (omega arith)), h n (omega arith))

pub sum_same : (f g : ℕ → ℕ) (n : ℕ) → ((k : ℕ) → k < n → f k ≡ g k) → sum_to f n ≡ sum_to g n
unfolding sum_to
sum_same f g zero h = refl
sum_same f g (suc n) h = omega (arith, sum_same f g n (λ k l. h k (omega arith)), h n (omega arith))

pub sum_bound : (f : ℕ → ℕ) (b n : ℕ) → ((k : ℕ) → k < n → f k ≤ b) → sum_to f n ≤ n * b
unfolding sum_to
sum_bound f b zero h = omega arith
sum_bound f b (suc n) h = omega (arith, sum_bound f b n (λ k l. h k (omega arith)), h n (omega arith), suc-mul n b)

pub sum_plus : (f g : ℕ → ℕ) (n : ℕ) → sum_to (λ j. f j + g j) n ≡ sum_to f n + sum_to g n
unfolding sum_to
sum_plus f g zero = refl
sum_plus f g (suc n) = omega (arith, sum_plus f g n)

last : (k n : ℕ) → n ≤ k → k < suc n → k ≡ n
last k n a b = omega arith

pub sum_strict : (f g : ℕ → ℕ) (n : ℕ) → ((j : ℕ) → j < n → f j ≤ g j) → (k : ℕ) → k < n → f k + 1 ≤ g k → sum_to f n + 1 ≤ sum_to g n
unfolding sum_to
sum_strict f g zero h k p q = omega arith
sum_strict f g (suc n) h k p q =
    ⊎_elim
    (λ l. omega (arith, sum_mono f g n (λ j l. h j (omega arith)), ap f (last k n l p), ap g (last k n l p)))
    (λ l. omega (arith, sum_strict f g n (λ j l. h j (omega arith)) k l q, h n (omega arith)))
    (split n k)

pub sum_at : (f : ℕ → ℕ) (n k : ℕ) → k < n → f k ≤ sum_to f n
unfolding sum_to
sum_at f zero k p = omega arith
sum_at f (suc n) k p =
    ⊎_elim (λ l. omega (arith, ap f (last k n l p))) (λ l. omega (arith, sum_at f n k l)) (split n k)

pub sum_two : (f : ℕ → ℕ) (n k l : ℕ) → k < n → l < n → (k ≡ l → ⊥) → f k + f l ≤ sum_to f n
unfolding sum_to
sum_two f zero k l p q d = omega arith
sum_two f (suc n) k l p q d =
    ⊎_elim
    (λ a. ⊎_elim (λ b. absurd (d (last k n a p ∙ sym (last l n b q)))) (λ b. omega (arith, ap f (last k n a p), sum_at f n l b)) (split n l))
    (λ a. ⊎_elim (λ b. omega (arith, ap f (last l n b q), sum_at f n k a)) (λ b. omega (arith, sum_two f n k l a b d)) (split n l))
    (split n k)

pub sum_zero : (f : ℕ → ℕ) (n : ℕ) → ((j : ℕ) → j < n → f j ≤ 0) → sum_to f n ≤ 0
unfolding sum_to
sum_zero f zero h = omega arith
sum_zero f (suc n) h = omega (arith, sum_zero f n (λ j p. h j (omega arith)), h n (omega arith))

below_not_same : (m n : ℕ) → m < n → m ≡ n → ⊥
below_not_same m n a b = omega arith

-- At most one of them is not 0, and none is above b.
pub sum_one : (f : ℕ → ℕ) (n b : ℕ) → ((j : ℕ) → j < n → f j ≤ b) → ((j k : ℕ) → j < n → k < n → 1 ≤ f j → 1 ≤ f k → j ≡ k) → sum_to f n ≤ b
unfolding sum_to
sum_one f zero b h u = omega arith
sum_one f (suc n) b h u =
    ⊎_elim
    (λ z. omega (arith, sum_one f n b (λ j p. h j (omega arith)) (λ j k p q. u j k (omega arith) (omega arith))))
    (λ w. omega (arith, sum_zero f n (λ j p. ⊎_elim (λ z. z) (λ v. absurd (below_not_same j n p (u j n (omega arith) (omega arith) v w))) (split (f j) 0)), h n (omega arith)))
    (split (f n) 0)

-- A loop that adds up f: j of n are added, none of them above high.
pub record Summed (f : ℕ → ℕ) (high n sum j : ℕ) : Type 0 where
  pub within : j ≤ n
  pub same : sum ≡ sum_to f j
  pub below : sum ≤ j * high

pub summed_none : (f : ℕ → ℕ) (high n : ℕ) → Summed f high n 0 0
summed_none f high n = record { within = omega arith; same = sym (sum_none f); below = omega arith }

pub summed_more : (f : ℕ → ℕ) (high n sum j v : ℕ) → Summed f high n sum j → j < n → v ≡ f j → v ≤ high → Summed f high n (sum + v) (j + 1)
summed_more f high n sum j v s h e b =
    record {
      within = omega arith;
      same = omega (arith, sum_more f j, s.same);
      below = rw add-one (omega (arith, suc-mul j high, s.below));
    }

pub summed_all : (f : ℕ → ℕ) (high n sum j : ℕ) → Summed f high n sum j → n ≤ j → (sum ≡ sum_to f n) × (sum ≤ n * high)
summed_all f high n sum j s h =
    let e : j ≡ n = omega (arith, s.within) in
    (s.same ∙ ap (sum_to f) e, rw (← e) s.below)

-- Maxima.
pub max_none : (f : ℕ → ℕ) → max_to f 0 ≡ 0
unfolding max_to
max_none f = refl

-- the code's i + 1
pub max_more : (f : ℕ → ℕ) (n : ℕ) → max_to f (n + 1) ≡ max (max_to f n) (f n)
unfolding max_to
max_more f n = rw add-one

pub max_at : (f : ℕ → ℕ) (n k : ℕ) → k < n → f k ≤ max_to f n
unfolding max_to
max_at f zero k p = omega arith
max_at f (suc n) k p =
    ⊎_elim (λ l. omega (arith, ap f (last k n l p))) (λ l. omega (arith, max_at f n k l)) (split n k)

pub max_under : (f : ℕ → ℕ) (n b : ℕ) → ((k : ℕ) → k < n → f k ≤ b) → max_to f n ≤ b
unfolding max_to
max_under f zero b h = omega arith
max_under f (suc n) b h = omega (arith, max_under f n b (λ k l. h k (omega arith)), h n (omega arith))

pub max_same : (f g : ℕ → ℕ) (n : ℕ) → ((k : ℕ) → k < n → f k ≡ g k) → max_to f n ≡ max_to g n
unfolding max_to
max_same f g zero h = refl
max_same f g (suc n) h = omega (arith, max_same f g n (λ k l. h k (omega arith)), h n (omega arith))
