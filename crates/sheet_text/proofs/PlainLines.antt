-- Lines of the plain layout: a word, and numbers that each follow one space; what they say.
use Prim.Native.Nat.{ℕ, zero, suc, ◌<◌, ◌≤◌}
use mathlib.Core.Path.{◌≡◌, refl, sym, ap, ◌∙◌}
use mathlib.Core.List.{List, [], ◌∷◌, ◌++◌, map, append-nil, append_assoc}
use native.Mathlib.Omega.{arith}
use lib.ListN.{length, get_or}
use borrow.Author.Tests.{le-ltb}
use Rattle.laws.specs.Choice.{first_of}
use Rattle.laws.specs.Tabulate.{padded}
use Rattle.laws.specs.TabulateLaws.{padded_same}
use Rattle.text.specs.Decimal.{digit, decimal}
use Rattle.text.specs.Lines.{line}
use Rattle.sheet_text.specs.Faults.{no_fault}
use Rattle.sheet_text.specs.Words.{bytes_before, word_of, after_word, value_of, number_fault, number_said, field_said, number_limit}
use Rattle.sheet_text.specs.Meaning.{most_numbers, numbers_fault, left_after, value_at, numbers_said}
use Rattle.sheet_text.specs.declared.Mark.TheVariants.{Blank, Visible}
use Rattle.sheet_text.proofs.WordsOfLines.{Each, each_append, No, Ends, word_next, word_there, after_next}
use Rattle.sheet_text.proofs.DecimalWords.{decimal_each, decimal_word, decimal_digits, decimal_value}

-- Numbers, each after a space.
abbrev pub spaced : List ℕ → List ℕ
spaced [] = []
spaced (n ∷ ns) = 32 ∷ decimal n ++ spaced ns

pub spaced_each : (P : ℕ → Type 0) → ((d : ℕ) → d < 10 → P (digit d)) → P 32 → (ns : List ℕ) → Each P (spaced ns)
spaced_each P h s [] = tt
spaced_each P h s (n ∷ ns) = (s, each_append P (decimal n) (spaced ns) (decimal_each P h n) (spaced_each P h s ns))

pub spaced_ends : (ns : List ℕ) → Ends Blank (spaced ns)
spaced_ends [] = tt
spaced_ends (n ∷ ns) = refl

-- A word and numbers, and the line's end.
pub line_of_lem : (word ns : List ℕ) → line (word ∷ map decimal ns) ≡ (word ++ spaced ns) ++ (10 ∷ [])
line_of_lem word [] = ap (λ (x : List ℕ). x ++ (10 ∷ [])) (sym (append-nil word))
line_of_lem word (n ∷ ns) =
    ap (λ (x : List ℕ). word ++ (32 ∷ x)) (line_of_lem (decimal n) ns) ∙ sym (append_assoc word (spaced (n ∷ ns)) (10 ∷ []))

-- Numbers within their limits, from number k of a line on.
abbrev pub Within : ℕ → List ℕ → Type 0
Within k [] = Unit
Within k (n ∷ ns) = (n ≤ number_limit k) × Within (suc k) ns

-- A number after blanks, and more numbers.
abbrev pub numbers_after : List ℕ → ℕ → List ℕ → List ℕ
numbers_after blanks n ns = blanks ++ (decimal n ++ spaced ns)

module _ (blanks : List ℕ) (b : Each (No Visible) blanks) (n : ℕ) (ns : List ℕ) where
  word_is : word_of (numbers_after blanks n ns) ≡ decimal n
  word_is = word_next blanks (decimal n) (spaced ns) b (decimal_word n) (spaced_ends ns)

  after_is : after_word (numbers_after blanks n ns) ≡ spaced ns
  after_is = after_next blanks (decimal n) (spaced ns) b (decimal_word n) (spaced_ends ns)

  field_clear : (most : ℕ) → n ≤ most → (field_said most (numbers_after blanks n ns)).fault ≡ 0
  unfolding field_said number_said number_fault first_of
  field_clear most h =
      rw (word_there blanks (decimal n) (spaced ns) b (decimal_word n) (spaced_ends ns), word_is, decimal_digits n, decimal_value n, le-ltb most n h)

-- No fault is found.
numbers_clear : (blanks : List ℕ) → Each (No Visible) blanks → (k n : ℕ) (ns : List ℕ) → Within k (n ∷ ns) → (line column : ℕ)
    → numbers_fault (suc (length ns)) k line column (numbers_after blanks n ns) ≡ no_fault
unfolding numbers_fault bytes_before
numbers_clear blanks b k n [] w line column = rw (field_clear blanks b n [] (number_limit k) w.0, after_is blanks b n [])
numbers_clear blanks b k n (m ∷ ms) w line column =
    rw (field_clear blanks b n (m ∷ ms) (number_limit k) w.0, after_is blanks b n (m ∷ ms)) (numbers_clear (32 ∷ []) (refl, tt) (suc k) m ms w.1 line _)

-- Each number is found in its place.
left_next : (line : List ℕ) (k : ℕ) → left_after (suc k) line ≡ left_after k (after_word line)
unfolding left_after
left_next line zero = refl
left_next line (suc k) = ap after_word (left_next line k)

value_next : (line : List ℕ) (k : ℕ) → value_at line (suc k) ≡ value_at (after_word line) k
unfolding value_at
value_next line k = ap (λ (x : List ℕ). value_of (word_of x)) (left_next line k)

value_there : (blanks : List ℕ) → Each (No Visible) blanks → (n : ℕ) (ns : List ℕ) (k : ℕ) → k < suc (length ns)
    → value_at (numbers_after blanks n ns) k ≡ get_or (n ∷ ns) k 0
unfolding value_at left_after
value_there blanks b n ns zero l = ap value_of (word_is blanks b n ns) ∙ decimal_value n
value_there blanks b n [] (suc k) l = absurd (omega arith)
value_there blanks b n (m ∷ ms) (suc k) l =
    value_next (numbers_after blanks n (m ∷ ms)) k
    ∙ ap (λ (x : List ℕ). value_at x k) (after_is blanks b n (m ∷ ms))
    ∙ value_there (32 ∷ []) (refl, tt) m ms k (omega arith)

pub numbers_said_lem : (blanks : List ℕ) → Each (No Visible) blanks → (n : ℕ) (ns : List ℕ) → Within 0 (n ∷ ns) → (line column : ℕ)
    → numbers_said (suc (length ns)) line column (numbers_after blanks n ns)
    ≡ record { fault = no_fault; values = padded most_numbers (suc (length ns)) (λ k. get_or (n ∷ ns) k 0) 0 }
unfolding numbers_said
numbers_said_lem blanks b n ns w line column =
    rw (numbers_clear blanks b 0 n ns w line column)
    (ap (λ (l : List ℕ). record { fault = no_fault; values = l })
    (padded_same (value_at (numbers_after blanks n ns)) (λ k. get_or (n ∷ ns) k 0) 0 most_numbers (suc (length ns)) (value_there blanks b n ns)))
