-- Bytes of a kind, what stands before a mark, and the next word of a line.
use Prim.Native.Nat.{ℕ, ◌<◌}
use mathlib.Core.Path.{◌≡◌, refl, sym, ap, ◌∙◌}
use mathlib.Core.Bool.{true, false}
use mathlib.Core.List.{List, [], ◌∷◌, ◌++◌, append-nil}
use native.Mathlib.Omega.{arith}
use lib.ListN.{length, length-append}
use lib.Seq.{drop-append_seam, drop-append-add}
use borrow.Author.Tests.{lt-ltb}
use Rattle.sheet_text.specs.Words.{is_mark, bytes_before, lines_of, has_word, word_of, after_word}
use Rattle.sheet_text.specs.declared.Mark.{Mark}
use Rattle.sheet_text.specs.declared.Mark.TheVariants.{Newline, Blank, Visible}

-- Every byte of a text is of a kind.
abbrev pub Each : (ℕ → Type 0) → List ℕ → Type 0
Each P [] = Unit
Each P (b ∷ text) = P b × Each P text

pub each_append : (P : ℕ → Type 0) (a b : List ℕ) → Each P a → Each P b → Each P (a ++ b)
each_append P [] b x y = y
each_append P (c ∷ a) b x y = (x.0, each_append P a b x.1 y)

-- A byte that is no such mark, and a text that ends or has one next.
abbrev pub No : Mark → ℕ → Type 0
No m b = is_mark m b ≡ false

abbrev pub Ends : Mark → List ℕ → Type 0
Ends m [] = Unit
Ends m (b ∷ text) = is_mark m b ≡ true

before_end : (m : Mark) (a rest : List ℕ) → Each (No m) a → Ends m rest → bytes_before m (a ++ rest) ≡ a
unfolding bytes_before
before_end m [] [] n e = refl
before_end m [] (b ∷ rest) n e = rw (e, bytes_before)
before_end m (b ∷ a) rest n e = rw (n.0, bytes_before) (ap (λ (x : List ℕ). b ∷ x) (before_end m a rest n.1 e))

pub before_all : (m : Mark) (a : List ℕ) → Each (No m) a → bytes_before m a ≡ a
before_all m a n = ap (bytes_before m) (sym (append-nil a)) ∙ before_end m a [] n tt

-- A line, and the lines after it.
pub lines_next : (a rest : List ℕ) → Each (No Newline) a → lines_of (a ++ 10 ∷ rest) ≡ a ∷ lines_of rest
unfolding lines_of
lines_next [] rest n = refl
lines_next (b ∷ a) rest n = rw (n.0, lines_of, lines_next a rest n.1)

-- A word has bytes, and no blank.
pub record IsWord (word : List ℕ) : Type 0 where
  pub some : 0 < length word
  pub whole : Each (No Blank) word

visible_next : (word rest : List ℕ) → IsWord word → Ends Visible (word ++ rest)
visible_next [] rest w = absurd (omega (arith, w.some))
visible_next (b ∷ word) rest w = rw w.whole.0

-- What is left of a line: blanks, a word, and what ends it.
module _ (blanks word rest : List ℕ) (b : Each (No Visible) blanks) (w : IsWord word) (e : Ends Blank rest) where
  blanks_next : bytes_before Visible (blanks ++ (word ++ rest)) ≡ blanks
  blanks_next = before_end Visible blanks (word ++ rest) b (visible_next word rest w)

  pub word_next : word_of (blanks ++ (word ++ rest)) ≡ word
  word_next = rw (blanks_next, drop-append_seam blanks (word ++ rest)) (before_end Blank word rest w.whole e)

  pub word_there : has_word (blanks ++ (word ++ rest)) ≡ true
  word_there =
      rw blanks_next
      (lt-ltb (length blanks) (length (blanks ++ (word ++ rest)))
      (omega (arith, length-append blanks (word ++ rest), length-append word rest, w.some)))

  pub after_next : after_word (blanks ++ (word ++ rest)) ≡ rest
  after_next = rw (word_next, blanks_next, drop-append-add blanks (word ++ rest) (length word)) (drop-append_seam word rest)
