-- The lowest set bit of a word is the first index that passes its test; how a loop makes the word bit by bit.
use Rattle.std.specs.Prelude.{◌≡◌, Bool, true, false, ℕ, zero, suc, ◌+◌, ◌*◌, ◌^◌, ◌%◌, ◌/◌, ◌<◌, ◌≤◌}
use Rattle.std.proofs.Common.{add-suc, suc-add, add-zero, zero-add, pow-suc, mul_assoc, add-one, arith, shl_exact}
use Rattle.std.specs.Int.Bits.{bit_or, or_shifted_r}
use Rattle.std.specs.Int.Count.{count_trailing_zeros, under}
use Rattle.laws.specs.Search.{first_from, first}
use Rattle.laws.specs.Words.{bit, word_from, word}

trailing_word : (f : ℕ → Bool) (i n : ℕ) → i + count_trailing_zeros n (word_from f i n) ≡ first_from f i n
unfolding word_from first_from count_trailing_zeros
trailing_word f i zero = add-zero i
trailing_word f i (suc n) = go (f i) (word_from f (suc i) n) (trailing_word f (suc i) n)
  where
    go : (b : Bool) (w : ℕ) → suc i + count_trailing_zeros n w ≡ first_from f (suc i) n
        → i + under ((bit b + 2 * w) % 2) (count_trailing_zeros n ((bit b + 2 * w) / 2)) ≡ elim b [ true ↦ i | false ↦ first_from f (suc i) n ]
    go true w h = let e : (1 + 2 * w) % 2 ≡ 1 = omega arith in rw (e, add-zero)
    go false w h =
        let e : (0 + 2 * w) % 2 ≡ 0 = omega arith in
        let q : (0 + 2 * w) / 2 ≡ w = omega arith in
        rw (e, q, add-suc, ← suc-add) h

-- The lowest set bit is the first.
pub lowest_is_first : (n : ℕ) (f : ℕ → Bool) → count_trailing_zeros n (word n f) ≡ first n f
lowest_is_first n f = let h = trailing_word f 0 n in rw zero-add at h

-- One bit more at the top.
word_last : (f : ℕ → Bool) (i n : ℕ) → word_from f i (suc n) ≡ word_from f i n + bit (f (i + n)) * 2 ^ n
unfolding word_from
word_last f i zero = rw (add-zero i) (omega arith)
word_last f i (suc n) =
    let ih = word_last f (suc i) n in
    let e : suc i + n ≡ i + suc n = omega arith in
    rw (ih, e, pow-suc, ← mul_assoc) (omega arith)

pub word_more : (n : ℕ) (f : ℕ → Bool) → word (n + 1) f ≡ word n f + bit (f n) * 2 ^ n
word_more n f = rw (add-one, word_last f 0 n, zero-add)

pub bit_le : (b : Bool) → bit b ≤ 1
bit_le true = omega arith
bit_le false = omega arith

word_lt : (f : ℕ → Bool) (i n : ℕ) → word_from f i n < 2 ^ n
unfolding word_from
word_lt f i zero = omega arith
word_lt f i (suc n) = let h = word_lt f (suc i) n in rw pow-suc (omega (arith, bit_le (f i)))

pub word_fits : (n : ℕ) (f : ℕ → Bool) → word n f < 2 ^ n
word_fits n f = word_lt f 0 n

-- A loop's turn: bit i is set where f i, by `mask |= 1 << i`, and stays clear where not.
pub set_bit : (f : ℕ → Bool) (i w : ℕ) → i < 32 → w ≡ word i f → f i ≡ true → bit_or w ((1 * 2 ^ i) % 2 ^ 32) ≡ word (i + 1) f
set_bit f i w h e t =
    rw (shl_exact {a = 1} 1 i 32 (omega arith) (omega arith), e, or_shifted_r 1 i (word i f) (word_lt f 0 i), word_more i f, t) (omega arith)

pub clear_bit : (f : ℕ → Bool) (i w : ℕ) → w ≡ word i f → f i ≡ false → w ≡ word (i + 1) f
clear_bit f i w e t = rw (e, word_more i f, t) (omega arith)
