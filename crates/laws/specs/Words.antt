-- A word made of bits.
use Rattle.std.specs.Prelude.{ℕ, zero, suc, ◌+◌, ◌*◌, Bool, true, false}

abbrev pub bit : Bool → ℕ
bit true = 1
bit false = 0

-- the word whose bit k is f (i + k), n bits
unfoldable pub word_from : (ℕ → Bool) → ℕ → ℕ → ℕ
word_from f i zero = 0
word_from f i (suc n) = bit (f i) + 2 * word_from f (suc i) n

-- the word whose bit k is f k, n bits
abbrev pub word : ℕ → (ℕ → Bool) → ℕ
word n f = word_from f 0 n
