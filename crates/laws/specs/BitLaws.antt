-- More laws of words: equal bits, clear bits at the top, one bit set above all others, one bit taken out, and each bit read.
use Rattle.std.specs.Prelude.{◌≡◌, refl, Bool, true, false, ℕ, zero, suc, ◌+◌, ◌-◌, ◌*◌, ◌^◌, ◌/◌, ◌%◌, ◌<◌, ◌≤◌, eqb}
use Rattle.std.proofs.Common.{sym, ap, subst, ◌∙◌, add-zero, add-suc, zero-add, pow-suc, mul_comm, not-suc-le-zero, add-one, arith}
use Rattle.std.proofs.Math.Nat.{div-div-eq-div-mul}
use Rattle.std.proofs.Math.Decide.{ℕ_discrete}
use Rattle.std.specs.Int.Bits.{bit_or}
use Rattle.laws.specs.Words.{bit, word_from, word}
use Rattle.laws.specs.WordLaws.{word_more, set_bit, clear_bit}

pub word_same : (n : ℕ) (f g : ℕ → Bool) → ((k : ℕ) → k < n → f k ≡ g k) → word n f ≡ word n g
unfolding word_from
word_same zero f g h = refl
word_same (suc n) f g h =
    ap (λ (z : ℕ). word z f) (sym (add-one n))
    ∙ word_more n f
    ∙ rw (word_same n f g (λ k l. h k (omega arith)), h n (omega arith)) (sym (word_more n g))
    ∙ ap (λ (z : ℕ). word z g) (add-one n)

word_up : (n d : ℕ) (f : ℕ → Bool) → ((k : ℕ) → n ≤ k → k < n + d → f k ≡ false) → word n f ≡ word (n + d) f
word_up n zero f h = ap (λ (z : ℕ). word z f) (sym (add-zero n))
word_up n (suc d) f h =
    clear_bit f (n + d) (word n f) (word_up n d f (λ k a b. h k a (omega arith))) (h (n + d) (omega arith) (omega arith))
    ∙ ap (λ (z : ℕ). word z f) (add-one (n + d) ∙ sym (add-suc n d))

-- Where no bit from n to m is set, the word of n bits is the word of m.
pub word_past : (n m : ℕ) (f : ℕ → Bool) → n ≤ m → ((k : ℕ) → n ≤ k → k < m → f k ≡ false) → word n f ≡ word m f
word_past n m f l h =
    let e : n + (m - n) ≡ m = omega arith in
    word_up n (m - n) f (λ k a b. h k a (omega arith)) ∙ ap (λ (z : ℕ). word z f) e

-- Bit k is set in a word of n bits that has none from k on.
pub set_above : (n k w : ℕ) (f g : ℕ → Bool) → n ≤ 32 → k < n → w ≡ word n f
    → ((j : ℕ) → k ≤ j → j < n → f j ≡ false)
    → ((j : ℕ) → j < k → f j ≡ g j)
    → g k ≡ true
    → ((j : ℕ) → k < j → j < n → g j ≡ false)
    → bit_or w ((1 * 2 ^ k) % 2 ^ 32) ≡ word n g
set_above n k w f g m l e clear same now above =
    set_bit g k w (omega arith) (e ∙ sym (word_past k n f (omega arith) clear) ∙ word_same k f g same) now
    ∙ word_past (k + 1) n g (omega arith) (λ j a b. above j (omega arith) b)

-- A word with bit k taken out is less by 2 ^ k.
pub word_less : (n k : ℕ) (f g : ℕ → Bool) → k < n → f k ≡ true → g k ≡ false → ((j : ℕ) → j < n → (j ≡ k → ⊥) → g j ≡ f j) → word n f ≡ word n g + 2 ^ k
word_less zero k f g l t u same = absurd (not-suc-le-zero l)
word_less (suc n) k f g l t u same = go (ℕ_discrete k n) (λ m. word_less n k f g m t u (λ j b. same j (omega arith)))
  where
    top : (x : ℕ → Bool) → word (suc n) x ≡ word n x + bit (x n) * 2 ^ n
    top x = ap (λ (z : ℕ). word z x) (sym (add-one n)) ∙ word_more n x

    go : Dec (k ≡ n) → (k < n → word n f ≡ word n g + 2 ^ k) → word (suc n) f ≡ word (suc n) g + 2 ^ k
    go (yes e) below =
        let a : f n ≡ true = subst (λ (x : ℕ). f x ≡ true) e t in
        let b : g n ≡ false = subst (λ (x : ℕ). g x ≡ false) e u in
        let c = word_same n f g (λ j m. sym (same j (omega arith) (λ q. absurd (omega (arith, q, m, e))))) in
        rw (top f, top g, a, b, c, e) (omega arith)
    go (no d) below =
        let c = below (omega arith) in
        let a = same n (omega arith) (λ q. d (sym q)) in
        rw (top f, top g, a) (omega arith)

bit_from : (f : ℕ → Bool) (i n k : ℕ) → k < n → word_from f i n / 2 ^ k % 2 ≡ bit (f (i + k))
unfolding word_from
bit_from f i zero k l = absurd (not-suc-le-zero l)
bit_from f i (suc n) zero l = rw add-zero (go (f i) (word_from f (suc i) n))
  where
    go : (b : Bool) (w : ℕ) → (bit b + 2 * w) / 2 ^ 0 % 2 ≡ bit b
    go true w = omega arith
    go false w = omega arith
bit_from f i (suc n) (suc k) l =
    rw (pow-suc, mul_comm (2 ^ k) 2, ← div-div-eq-div-mul)
    (ap (λ (z : ℕ). z / 2 ^ k % 2) (go (f i) (word_from f (suc i) n))
    ∙ bit_from f (suc i) n k (omega arith)
    ∙ ap (λ (z : ℕ). bit (f z)) (omega arith))
  where
    go : (b : Bool) (w : ℕ) → (bit b + 2 * w) / 2 ≡ w
    go true w = omega arith
    go false w = omega arith

is_bit : (b : Bool) → eqb (bit b) 1 ≡ b
is_bit true = refl
is_bit false = refl

-- Bit k of the word of f is f k.
pub bit_of : (n : ℕ) (f : ℕ → Bool) (k : ℕ) → k < n → eqb (word n f / 2 ^ k % 2) 1 ≡ f k
bit_of n f k l = ap (λ (z : ℕ). eqb z 1) (bit_from f 0 n k l ∙ ap (λ (z : ℕ). bit (f z)) (zero-add k)) ∙ is_bit (f k)
