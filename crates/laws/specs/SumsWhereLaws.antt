-- Laws of sums over the indices that pass a test.
use Prim.Native.Nat.{ℕ, zero, suc, ◌+◌, ◌≤◌, ◌<◌}
use Rattle.std.specs.Prelude.{◌≡◌, refl, Bool, true, false, ◌⊎◌}
use Rattle.std.proofs.Common.{◌∙◌, inl, inr}
use native.Mathlib.Omega.{arith}
use Rattle.laws.specs.Choice.{pick}
use Rattle.laws.specs.Sums.{sum_to}
use Rattle.laws.specs.SumLaws.{sum_mono, sum_same, sum_plus, sum_strict, sum_at, sum_one}
use Rattle.laws.specs.SumsWhere.{sum_where}
use Rattle.laws.specs.RoundingLaws.{split}

pick_mono : (t : Bool) (a b : ℕ) → (t ≡ true → a ≤ b) → pick t a 0 ≤ pick t b 0
pick_mono true a b h = h refl
pick_mono false a b h = omega arith

pick_under : (t : Bool) (a b : ℕ) → (t ≡ true → a ≤ b) → pick t a 0 ≤ b
pick_under true a b h = h refl
pick_under false a b h = omega arith

pick_plus : (t : Bool) (a b : ℕ) → pick t (a + b) 0 ≡ pick t a 0 + pick t b 0
pick_plus true a b = refl
pick_plus false a b = refl

pick_some : (t : Bool) (a : ℕ) → 1 ≤ pick t a 0 → (t ≡ true) × (1 ≤ a)
pick_some true a h = (refl, h)
pick_some false a h = absurd (omega arith)

module _ (test : ℕ → Bool) where
  pub where_mono : (f g : ℕ → ℕ) (n : ℕ) → ((j : ℕ) → j < n → test j ≡ true → f j ≤ g j) → sum_where test f n ≤ sum_where test g n
  unfolding sum_where
  where_mono f g n h = sum_mono _ _ n (λ j p. pick_mono (test j) (f j) (g j) (h j p))

  pub where_plus : (f g : ℕ → ℕ) (n : ℕ) → sum_where test (λ j. f j + g j) n ≡ sum_where test f n + sum_where test g n
  unfolding sum_where
  where_plus f g n =
      sum_same _ _ n (λ j p. pick_plus (test j) (f j) (g j)) ∙ sum_plus (λ j. pick (test j) (f j) 0) (λ j. pick (test j) (g j) 0) n

  pub where_at : (f : ℕ → ℕ) (n k : ℕ) → k < n → test k ≡ true → f k ≤ sum_where test f n
  unfolding sum_where
  where_at f n k p t = let h = sum_at (λ j. pick (test j) (f j) 0) n k p in rw t at h

  -- One of those that pass grows.
  pub where_strict : (f g : ℕ → ℕ) (n : ℕ) → ((j : ℕ) → j < n → test j ≡ true → f j ≤ g j)
      → (k : ℕ) → k < n → test k ≡ true → f k + 1 ≤ g k → sum_where test f n + 1 ≤ sum_where test g n
  unfolding sum_where
  where_strict f g n h k p t l = sum_strict _ _ n (λ j q. pick_mono (test j) (f j) (g j) (h j q)) k p (rw t l)

  -- At most one of those that pass is not 0, and none is above b.
  pub where_one : (f : ℕ → ℕ) (n b : ℕ) → ((j : ℕ) → j < n → test j ≡ true → f j ≤ b)
      → ((j k : ℕ) → j < n → k < n → test j ≡ true → test k ≡ true → 1 ≤ f j → 1 ≤ f k → j ≡ k) → sum_where test f n ≤ b
  unfolding sum_where
  where_one f n b h u =
      sum_one _ n b (λ j p. pick_under (test j) (f j) b (h j p))
      (λ j k p q l m. both j k p q (pick_some (test j) (f j) l) (pick_some (test k) (f k) m))
    where
      both : (j k : ℕ) → j < n → k < n → (test j ≡ true) × (1 ≤ f j) → (test k ≡ true) × (1 ≤ f k) → j ≡ k
      both j k p q l m = u j k p q l.0 m.0 l.1 m.1

  -- Each of those that pass is in balance, so their sums are.
  pub where_balance : (a b c d : ℕ → ℕ) (n : ℕ) → ((j : ℕ) → j < n → test j ≡ true → a j + b j ≤ c j + d j)
      → sum_where test a n + sum_where test b n ≤ sum_where test c n + sum_where test d n
  where_balance a b c d n h = omega (arith, where_mono (λ j. a j + b j) (λ j. c j + d j) n h, where_plus a b n, where_plus c d n)

  -- A sum that is not 0 has a part that is not.
  pub where_some : (f : ℕ → ℕ) (n : ℕ) → 1 ≤ sum_where test f n → (j : ℕ) × (j < n) × (test j ≡ true) × (1 ≤ f j)
  unfolding sum_where sum_to
  where_some f zero h = absurd (omega arith)
  where_some f (suc n) h = go (where_some f n) (split (pick (test n) (f n) 0) 0)
    where
      go : (1 ≤ sum_where test f n → (j : ℕ) × (j < n) × (test j ≡ true) × (1 ≤ f j))
          → (pick (test n) (f n) 0 ≤ 0) ⊎ (0 < pick (test n) (f n) 0) → (j : ℕ) × (j < suc n) × (test j ≡ true) × (1 ≤ f j)
      go more (inl z) = let r = more (omega arith) in (r.0, omega (arith, r.1), r.2, r.3)
      go more (inr p) = let r = pick_some (test n) (f n) p in (n, omega arith, r.0, r.1)
