-- The tests of rank say what they test.
use Prim.Native.Nat.{ℕ, ◌<◌, ◌≤◌}
use mathlib.Core.Path.{◌≡◌}
use mathlib.Core.Bool.{true, ◌&&◌, and-eq-true_iff}
use mathlib.Core.Logic.{◌⊎◌, inl, inr}
use native.Mathlib.Omega.{arith}
use lib.Dec.{ltb, eqb}
use borrow.Author.Tests.{ltb-true, lt-ltb, eqb-true, eq-eqb}
use Rattle.laws.specs.RoundingLaws.{split}
use Rattle.theory.specs.System.{System, Above, Higher, Lower, above, higher, lower}

ranked : (p r j k : ℕ) → eqb p r && ltb j k ≡ true → (p ≡ r) × (j < k)
ranked p r j k h = let f = simp and-eq-true_iff at h in (eqb-true p r f.0, ltb-true j k f.1)

ranks : (p r j k : ℕ) → (p ≡ r) × (j < k) → eqb p r && ltb j k ≡ true
ranks p r j k h = rw (eq-eqb p r h.0, lt-ltb j k h.1)

module _ (sys : System) (i j : ℕ) where
  pub is_above : above sys i j ≡ true → Above sys i j
  is_above = ltb-true (sys.processor j) (sys.processor i)

  pub tests_above : Above sys i j → above sys i j ≡ true
  tests_above = lt-ltb (sys.processor j) (sys.processor i)

  pub is_higher : higher sys i j ≡ true → Higher sys i j
  is_higher = ranked (sys.processor j) (sys.processor i) j i

  pub tests_higher : Higher sys i j → higher sys i j ≡ true
  tests_higher = ranks (sys.processor j) (sys.processor i) j i

  pub is_lower : lower sys i j ≡ true → Lower sys i j
  is_lower = ranked (sys.processor j) (sys.processor i) i j

  pub tests_lower : Lower sys i j → lower sys i j ≡ true
  tests_lower = ranks (sys.processor j) (sys.processor i) i j

-- A row comes before another, is the same, or comes after.
pub data Order (j i : ℕ) : Type 0 where
  before : j < i → Order j i
  same : j ≡ i → Order j i
  after : i < j → Order j i

pub order : (j i : ℕ) → Order j i
order j i = go (split j i) (split i j)
  where
    go : (j ≤ i) ⊎ (i < j) → (i ≤ j) ⊎ (j < i) → Order j i
    go (inr p) q = after p
    go (inl p) (inr q) = before q
    go (inl p) (inl q) = same (omega arith)

pub no_zero : {a : ℕ} {A : Type 0} → 1 ≤ a → a ≡ 0 → A
no_zero h g = absurd (omega arith)
