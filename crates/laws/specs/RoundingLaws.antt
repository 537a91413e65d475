-- Laws of rounding up and down, and the split of two numbers by their order.
use Rattle.std.specs.Prelude.{ℕ, zero, suc, ◌+◌, ◌-◌, ◌*◌, ◌/◌, ◌≤◌, ◌<◌, ◌≡◌, ◌⊎◌}
use Rattle.std.proofs.Common.{inl, inr, arith, le-div_iff_mul-le, le_trans, div-mul-le_self, suc-mul, div-lt_iff_lt-mul, lt_of_not-le}
use Rattle.std.proofs.Math.Decide.{dec_le}
use Rattle.std.proofs.Math.Nat.{div-zero, add-div_right}
use Rattle.laws.specs.Rounding.{up}

pub split : (a b : ℕ) → (a ≤ b) ⊎ (b < a)
split a b = go (dec_le a b)
  where
    go : Dec (a ≤ b) → (a ≤ b) ⊎ (b < a)
    go (yes p) = inl p
    go (no q) = inr (lt_of_not-le q)

-- Rounding down.
pub le_div : (k x t : ℕ) → 0 < t → k * t ≤ x → k ≤ x / t
le_div k x t p h = (le-div_iff_mul-le p).1 h

pub div_mono : (t : ℕ) {a b : ℕ} → a ≤ b → a / t ≤ b / t
div_mono zero {a} {b} h = rw (div-zero a, div-zero b) (omega arith)
div_mono (suc t) {a} {b} h = (le-div_iff_mul-le {k = suc t} (omega arith)).1 (le_trans (div-mul-le_self a (suc t)) h)

-- Rounding up.
pub up_mono : (t : ℕ) {a b : ℕ} → a ≤ b → up a t ≤ up b t
up_mono t h = div_mono t (omega arith)

-- Rounding up counts one whole period more than rounding the number before down.
pub up_suc : (x t : ℕ) → 0 < t → up (suc x) t ≡ x / t + 1
up_suc x t h =
    let e : suc x + t - 1 ≡ x + t = omega arith in
    rw e (add-div_right x h)

-- What is below x / t rounded up fits below x in whole periods.
pub up_below : (x t q : ℕ) → 0 < t → q < up x t → q * t < x
up_below x t q h l =
    let w : suc q * t ≤ x + t - 1 = (le-div_iff_mul-le h).0 l in
    omega (arith, suc-mul q t, w)

pub le_up : (k x t : ℕ) → 0 < t → k * t < x + t → k ≤ up x t
le_up k x t p h = (le-div_iff_mul-le p).1 (omega arith)

pub up_le : (x t q : ℕ) → 0 < t → x ≤ q * t → up x t ≤ q
up_le x t q h l =
    let w : up x t < suc q = (div-lt_iff_lt-mul h).1 (omega (arith, suc-mul q t)) in
    omega arith

pub up_pos : (x t : ℕ) → 0 < t → 0 < x → 1 ≤ up x t
up_pos x t h p = (le-div_iff_mul-le h).1 (omega arith)
