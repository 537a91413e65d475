-- The decimal digits that the kit's contract tells are those of the definition.
use Prim.Native.Nat.{ℕ, zero, suc, ◌-◌, ◌/◌, ◌%◌, ◌^◌, ◌≤◌, ◌<◌}
use mathlib.Core.Path.{◌≡◌, refl, ap, ap₂}
use mathlib.Core.Bool.{Bool, true, false}
use mathlib.Core.List.{[], ◌∷◌, ◌++◌}
use native.Mathlib.Nat.{pow-suc, one-le-pow}
use native.Mathlib.Omega.{arith}
use lib.ListN.{length, length-append}
use lib.Dec.{ltb}
use borrow.Author.Tests.{lt-ltb, le-ltb, ltb-false}
use Rattle.io.specs.Digits.{last_digits, hex_digit_ascii, IsDigitCount}
use Rattle.text.specs.Decimal.{digit, decimal_in, decimal}

-- A digit below ten in the kit's words.
glyph_digit : (d : ℕ) → d < 10 → hex_digit_ascii d ≡ digit d
glyph_digit d h = rw (lt-ltb d 10 h)

last_digit : (n : ℕ) → hex_digit_ascii (n % 10) ≡ digit (n % 10)
last_digit n = glyph_digit (n % 10) (omega arith)

one_less : (r : ℕ) → suc r - 1 ≡ r
one_less r = omega arith

at_least : (r n : ℕ) → IsDigitCount 10 1 n (suc (suc r)) → 10 ^ suc r ≤ n
at_least r n h = rw (one_less (suc r)) at (h.2 (omega arith))

-- A tenth of a number has one digit less.
tenth : (r n : ℕ) → IsDigitCount 10 1 n (suc (suc r)) → IsDigitCount 10 1 (n / 10) (suc r)
tenth r n h = (omega arith, omega (arith, h.1, pow-suc 10 (suc r)), λ l. rw (one_less r) (omega (arith, at_least r n h, pow-suc 10 r)))

-- As many digits as there are, and room for more.
digits_in : (r n most : ℕ) → IsDigitCount 10 1 n (suc r) → n < most → last_digits 10 (suc r) n ≡ decimal_in most n
unfolding decimal_in
digits_in r n zero h l = absurd (omega arith)
digits_in zero n (suc most) h l =
    let below : n < 10 = omega (arith, h.1) in
    let same : n % 10 ≡ n = omega arith in
    rw (lt-ltb n 10 below, same, decimal_in) (ap (λ g. g ∷ []) (glyph_digit n below))
digits_in (suc r) n (suc most) h l =
    let above : 10 ≤ n = omega (arith, at_least r n h, pow-suc 10 r, one-le-pow r 10 (omega arith)) in
    rw (le-ltb n 10 above, decimal_in) (ap₂ (λ front g. front ++ (g ∷ [])) (digits_in r (n / 10) most (tenth r n h) (omega arith)) (last_digit n))

pub decimal_digits : (r n : ℕ) → IsDigitCount 10 1 n r → last_digits 10 r n ≡ decimal n
unfolding decimal
decimal_digits zero n h = absurd (omega arith)
decimal_digits (suc r) n h = digits_in r n (suc n) h (omega arith)

-- A number below 10 to the k + 1 has at most k + 1 digits.
short_in : (most k n : ℕ) → n < 10 ^ suc k → length (decimal_in most n) ≤ suc k
unfolding decimal_in
short_in zero k n h = omega arith
short_in (suc most) k n h = go (ltb n 10) refl k h (λ k. short_in most k (n / 10))
  where
    go : (b : Bool) → ltb n 10 ≡ b → (k : ℕ) → n < 10 ^ suc k → ((k : ℕ) → n / 10 < 10 ^ suc k → length (decimal_in most (n / 10)) ≤ suc k)
        → length {A = ℕ} (elim b [ true ↦ digit n ∷ [] | false ↦ decimal_in most (n / 10) ++ (digit (n % 10) ∷ []) ]) ≤ suc k
    go true e k h ih = omega arith
    go false e zero h ih = absurd (omega (arith, ltb-false n 10 e, h))
    go false e (suc k) h ih = omega (arith, length-append (decimal_in most (n / 10)) (digit (n % 10) ∷ []), ih k (omega arith))

pub decimal_short : (k n : ℕ) → n < 10 ^ suc k → length (decimal n) ≤ suc k
unfolding decimal
decimal_short k n h = short_in (suc n) k n h
