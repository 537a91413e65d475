-- Numbers in decimal are words, and say themselves.
use Prim.Native.Nat.{ℕ, zero, suc, ◌+◌, ◌*◌, ◌-◌, ◌/◌, ◌%◌, ◌<◌}
use mathlib.Core.Path.{◌≡◌, refl, ◌∙◌}
use mathlib.Core.Bool.{Bool, true, false}
use mathlib.Core.List.{List, [], ◌∷◌, ◌++◌}
use native.Mathlib.Omega.{arith}
use lib.ListN.{length, length-append}
use lib.Dec.{ltb}
use borrow.Author.Tests.{ltb-true, ltb-false, le-leb, ne_eqb}
use Rattle.text.specs.Decimal.{digit, decimal_in, decimal}
use Rattle.sheet_text.specs.Words.{is_digit, all_digits, value_from, value_of}
use Rattle.sheet_text.specs.declared.Mark.TheVariants.{Newline, Hash, Blank}
use Rattle.sheet_text.proofs.WordsOfLines.{Each, each_append, No, IsWord}

-- A number is its digits: what holds of every digit holds of its bytes.
each_in : (P : ℕ → Type 0) → ((d : ℕ) → d < 10 → P (digit d)) → (most n : ℕ) → Each P (decimal_in most n)
unfolding decimal_in
each_in P h zero n = tt
each_in P h (suc most) n = go (ltb n 10) refl (each_in P h most (n / 10))
  where
    go : (b : Bool) → ltb n 10 ≡ b → Each P (decimal_in most (n / 10))
        → Each P (elim b [ true ↦ digit n ∷ [] | false ↦ decimal_in most (n / 10) ++ (digit (n % 10) ∷ []) ])
    go true e ih = (h n (omega (arith, ltb-true n 10 e)), tt)
    go false e ih = each_append P (decimal_in most (n / 10)) (digit (n % 10) ∷ []) ih (h (n % 10) (omega arith), tt)

pub decimal_each : (P : ℕ → Type 0) → ((d : ℕ) → d < 10 → P (digit d)) → (n : ℕ) → Each P (decimal n)
unfolding decimal
decimal_each P h n = each_in P h (suc n) n

-- A digit is no newline, no hash and no blank.
pub digit_no_newline : (d : ℕ) → d < 10 → No Newline (digit d)
digit_no_newline d h = ne_eqb (digit d) 10 (omega arith)

pub digit_no_hash : (d : ℕ) → d < 10 → No Hash (digit d)
digit_no_hash d h = ne_eqb (digit d) 35 (omega arith)

digit_no_blank : (d : ℕ) → d < 10 → No Blank (digit d)
digit_no_blank d h = rw (ne_eqb (digit d) 32 (omega arith), ne_eqb (digit d) 9 (omega arith)) (ne_eqb (digit d) 13 (omega arith))

digit_is : (d : ℕ) → d < 10 → is_digit (digit d) ≡ true
digit_is d h = rw (le-leb 48 (digit d) (omega arith)) (le-leb (digit d) 57 (omega arith))

some_in : (most n : ℕ) → 0 < length (decimal_in (suc most) n)
unfolding decimal_in
some_in most n = go (ltb n 10)
  where
    go : (b : Bool) → 0 < length {A = ℕ} (elim b [ true ↦ digit n ∷ [] | false ↦ decimal_in most (n / 10) ++ (digit (n % 10) ∷ []) ])
    go true = omega arith
    go false = omega (arith, length-append (decimal_in most (n / 10)) (digit (n % 10) ∷ []))

pub decimal_word : (n : ℕ) → IsWord (decimal n)
unfolding decimal
decimal_word n = record { some = some_in n n; whole = decimal_each (No Blank) digit_no_blank n }

-- All its bytes are digits, and their value is the number.
all_digits_lem : (word : List ℕ) → Each (λ b. is_digit b ≡ true) word → all_digits word ≡ true
unfolding all_digits
all_digits_lem [] d = refl
all_digits_lem (b ∷ word) d = rw (d.0, all_digits) (all_digits_lem word d.1)

pub decimal_digits : (n : ℕ) → all_digits (decimal n) ≡ true
decimal_digits n = all_digits_lem (decimal n) (decimal_each (λ b. is_digit b ≡ true) digit_is n)

value_append : (v : ℕ) (a b : List ℕ) → value_from v (a ++ b) ≡ value_from (value_from v a) b
unfolding value_from
value_append v [] b = refl
value_append v (c ∷ a) b = value_append (v * 10 + (c - 48)) a b

value_in : (most n : ℕ) → n < most → value_of (decimal_in most n) ≡ n
unfolding decimal_in value_from
value_in zero n h = absurd (omega arith)
value_in (suc most) n h = go (ltb n 10) refl (value_in most (n / 10))
  where
    go : (b : Bool) → ltb n 10 ≡ b → (n / 10 < most → value_of (decimal_in most (n / 10)) ≡ n / 10)
        → value_of (elim b [ true ↦ digit n ∷ [] | false ↦ decimal_in most (n / 10) ++ (digit (n % 10) ∷ []) ]) ≡ n
    go true e ih = omega arith
    go false e ih =
        value_append 0 (decimal_in most (n / 10)) (digit (n % 10) ∷ []) ∙ omega (arith, ih (omega (arith, ltb-false n 10 e)))

pub decimal_value : (n : ℕ) → value_of (decimal n) ≡ n
unfolding decimal
decimal_value n = value_in (suc n) n (omega arith)
