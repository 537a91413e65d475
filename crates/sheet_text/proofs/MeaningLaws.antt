-- Laws of what lines and texts say, in words of what the code has found.
use Prim.Native.Nat.{ℕ, ◌+◌, ◌-◌, ◌≤◌, ◌<◌}
use mathlib.Core.Path.{◌≡◌, refl, sym, ap, ap₂, ◌∙◌}
use mathlib.Core.Bool.{Bool, true, false, not}
use mathlib.Core.List.{List}
use native.Mathlib.Omega.{arith}
use native.Mathlib.Decide.{dec_lt}
use lib.ListN.{length, get_or, take, drop}
use lib.Dec.{eqb}
use borrow.Author.Tests.{lt-ltb, le-ltb, not-true, not-false}
use Rattle.std.specs.Cmp.Lexicographic.{pointwise}
use Rattle.laws.specs.Choice.{pick}
use Rattle.laws.specs.ChoiceLaws.{pick_true, pick_false}
use Rattle.sheet.specs.Ranges.{most_rows}
use Rattle.text.specs.Ascii.{ascii}
use Rattle.sheet_text.specs.Faults.{FIRST, ROWS, fault_at}
use Rattle.sheet_text.specs.Words.{bytes_before, blanks_of, word_of, word_end, after_word, same_bytes}
use Rattle.sheet_text.specs.Meaning.{Numbers, most_numbers, faulty_numbers, numbers_said, first_line_said, row_of_numbers, row_numbers, row_said}
use Rattle.sheet_text.specs.declared.Mark.TheVariants.{Blank}
use Rattle.sheet_text.proofs.NumberLaws.{first_byte}
use Rattle.sheet_text.proofs.WordLaws.{same_pointwise, word_size, word_part}

-- The first line, where its first word has been found and compared.
module _ (content : List ℕ) {start size : ℕ} (blanks : start ≡ blanks_of content) (bytes : size ≡ length (bytes_before Blank (take (length content - start) (drop start content))))
    (line : ℕ) {differs : Bool} {key : List ℕ} (key_is : key ≡ ascii "processors") (compared : differs ≡ not (pointwise eqb (take (start + size - start) (drop start content)) key)) where
  same_word : pointwise eqb (take (start + size - start) (drop start content)) key ≡ same_bytes (word_of content) (ascii "processors")
  same_word =
      (λ i. pointwise eqb (word_part content 0 (omega arith) start start size blanks (omega arith) bytes i) (key_is i))
      ∙ sym (same_pointwise (word_of content) (ascii "processors"))

  pub first_faulty : differs ≡ true → faulty_numbers (fault_at FIRST line (start + 1)) ≡ first_line_said line content
  unfolding first_line_said
  first_faulty f =
      ap (λ (n : ℕ). faulty_numbers (fault_at FIRST line (n + 1))) blanks ∙ sym (pick_false _ _ _ (sym same_word ∙ not-true _ (sym compared ∙ f)))

  pub first_good : differs ≡ false → numbers_said 1 line (start + size + 1) (drop (start + size) content) ≡ first_line_said line content
  unfolding first_line_said
  first_good t =
      let end : start + size ≡ word_end content = ap₂ (λ (a b : ℕ). a + b) blanks (word_size content 0 (omega arith) start start size blanks (omega arith) bytes) in
      ap (λ (n : ℕ). numbers_said 1 line (n + 1) (drop n content)) end ∙ sym (pick_true _ _ _ (sym same_word ∙ not-false _ (sym compared ∙ t)))

-- N is a byte.
pub processors_byte : (line : ℕ) (content : List ℕ) → get_or (first_line_said line content).values 0 0 ≤ 255
unfolding first_line_said
processors_byte line content = go (same_bytes (word_of content) (ascii "processors"))
  where
    go : (b : Bool) → get_or (pick {A = Numbers} b (numbers_said 1 line (word_end content + 1) (after_word content)) (faulty_numbers (fault_at FIRST line (blanks_of content + 1)))).values 0 0 ≤ 255
    go true = first_byte 0 line (word_end content + 1) (after_word content)
    go false = omega arith

-- A row's line.
pub row_good : (k line : ℕ) (content : List ℕ) → k < most_rows → numbers_said most_numbers line 1 content ≡ row_numbers k line content
unfolding row_numbers
row_good k line content h = sym (pick_true _ _ _ (lt-ltb k most_rows h))

pub row_faulty : (k line : ℕ) (content : List ℕ) (start : ℕ) → start ≡ blanks_of content → most_rows ≤ k
    → faulty_numbers (fault_at ROWS line (start + 1)) ≡ row_numbers k line content
unfolding row_numbers
row_faulty k line content start e h = ap (λ (n : ℕ). faulty_numbers (fault_at ROWS line (n + 1))) e ∙ sym (pick_false _ _ _ (le-ltb k most_rows h))

pub row_byte : (k line : ℕ) (content : List ℕ) → get_or (row_numbers k line content).values 0 0 ≤ 255
row_byte k line content = go (dec_lt k most_rows)
  where
    value : Numbers → ℕ
    value numbers = get_or numbers.values 0 0

    go : Dec (k < most_rows) → value (row_numbers k line content) ≤ 255
    go (yes h) = omega (arith, ap value (row_good k line content h), first_byte 4 line 1 content)
    go (no h) = omega (arith, ap value (row_faulty k line content (blanks_of content) refl (omega arith)))

pub row_few : (k line : ℕ) (content : List ℕ) → (row_said k line content).fault.number ≡ 0 → k < most_rows
unfolding row_said
row_few k line content z = go (dec_lt k most_rows)
  where
    go : Dec (k < most_rows) → k < most_rows
    go (yes h) = h
    go (no h) = absurd (omega (arith, z, ap (λ (n : Numbers). n.fault.number) (row_faulty k line content (blanks_of content) refl (omega arith))))

pub row_is : (k line : ℕ) (content : List ℕ) (numbers : Numbers) → numbers ≡ row_numbers k line content
    → record { fault = numbers.fault; row = row_of_numbers numbers.values } ≡ row_said k line content
unfolding row_said
row_is k line content numbers e = ap (λ (n : Numbers). record { fault = n.fault; row = row_of_numbers n.values }) e
