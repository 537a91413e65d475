-- What a text says: a set, or the first fault.
use Rattle.std.specs.Prelude.{ℕ, zero, suc, ◌+◌, true, false, List, [], ◌∷◌, length, get_or, replicate, ltb}
use Rattle.laws.specs.Choice.{pick}
use Rattle.laws.specs.Tabulate.{padded}
use Rattle.sheet.specs.declared.Row.{Row}
use Rattle.sheet.specs.declared.Set.{Set}
use Rattle.sheet.specs.Ranges.{most_rows, zero_row, zero_set}
use Rattle.text.specs.Ascii.{ascii}
use Rattle.sheet_text.specs.Faults.{LONG, FIRST, MANY, ROWS, Fault, fault_at, no_fault, or_else, unless}
use Rattle.sheet_text.specs.Words.{lines_of, content_of, blanks_of, has_word, word_of, word_end, after_word, same_bytes, value_of, field_said, number_limit}

-- A line with words: its number, and what it says.
pub record TextLine : Type 0 where
  pub number : ℕ
  pub content : List ℕ

abbrev pub line_at : ℕ → List ℕ → TextLine
line_at n content = record { number = n; content = content }

-- The lines with words, numbered from n on.
unfoldable pub worded : ℕ → List (List ℕ) → List TextLine
worded n [] = []
worded n (line ∷ lines) =
    elim (has_word (content_of line)) [ true ↦ line_at n (content_of line) ∷ worded (suc n) lines | false ↦ worded (suc n) lines ]

-- What is wrong with what is left of a line, which begins at a column and has to be so many numbers, number k and those after it.
unfoldable pub numbers_fault : (count k line column : ℕ) → List ℕ → Fault
numbers_fault zero k line column left = pick (has_word left) (fault_at MANY line (column + blanks_of left)) no_fault
numbers_fault (suc count) k line column left =
    or_else (fault_at (field_said (number_limit k) left).fault line (column + (field_said (number_limit k) left).place))
    (numbers_fault count (suc k) line (column + word_end left) (after_word left))

-- What is left of a line after k words, and number k of it.
unfoldable pub left_after : ℕ → List ℕ → List ℕ
left_after zero line = line
left_after (suc k) line = after_word (left_after k line)

unfoldable pub value_at : List ℕ → ℕ → ℕ
value_at line k = value_of (word_of (left_after k line))

abbrev pub most_numbers : ℕ
most_numbers = 5

-- What a line says beside its fault: numbers, or a row; and what a text says beside its fault.
pub record Numbers : Type 0 where
  pub fault : Fault
  pub values : List ℕ

pub record RowSaid : Type 0 where
  pub fault : Fault
  pub row : Row

pub record Meaning : Type 0 where
  pub fault : Fault
  pub set : Set

abbrev pub faulty_numbers : Fault → Numbers
faulty_numbers fault = record { fault = fault; values = replicate most_numbers 0 }

-- What is left of a line says so many numbers.
unfoldable pub numbers_said : (count line column : ℕ) → List ℕ → Numbers
numbers_said count line column left =
    unless (numbers_fault count 0 line column left) (record { fault = no_fault; values = padded most_numbers count (value_at left) 0 }) faulty_numbers

-- The first line: `processors` and N.
unfoldable pub first_line_said : ℕ → List ℕ → Numbers
first_line_said n content =
    pick (same_bytes (word_of content) (ascii "processors"))
    (numbers_said 1 n (word_end content + 1) (after_word content))
    (faulty_numbers (fault_at FIRST n (blanks_of content + 1)))

-- The row of five numbers.
abbrev pub row_of_numbers : List ℕ → Row
row_of_numbers values =
    record {
      processor = get_or values 0 0;
      memory = get_or values 1 0;
      computation = get_or values 2 0;
      period = get_or values 3 0;
      deadline = get_or values 4 0;
    }

-- Row k's line has number n.
unfoldable pub row_numbers : (k n : ℕ) → List ℕ → Numbers
row_numbers k n content =
    pick (ltb k most_rows)
    (numbers_said most_numbers n 1 content)
    (faulty_numbers (fault_at ROWS n (blanks_of content + 1)))

unfoldable pub row_said : (k n : ℕ) → List ℕ → RowSaid
row_said k n content = record { fault = (row_numbers k n content).fault; row = row_of_numbers (row_numbers k n content).values }

-- What is wrong with the lines of row k, row k + 1 and so on.
unfoldable pub rows_fault : ℕ → List TextLine → Fault
rows_fault k [] = no_fault
rows_fault k (l ∷ lines) = or_else (row_said k l.number l.content).fault (rows_fault (suc k) lines)

abbrev pub no_line : TextLine
no_line = line_at 0 []

abbrev pub row_of_line : List TextLine → ℕ → Row
row_of_line lines k = let l = get_or lines k no_line in (row_said k l.number l.content).row

abbrev pub meant : Set → Meaning
meant set = record { fault = no_fault; set = set }

abbrev pub meant_nothing : Fault → Meaning
meant_nothing fault = record { fault = fault; set = zero_set }

-- The lines after the first say the rows of a set with N processors.
unfoldable pub rows_meant : ℕ → List TextLine → Meaning
rows_meant N lines =
    unless (rows_fault 0 lines)
    (meant (record { processors = N; count = length lines; rows = padded most_rows (length lines) (row_of_line lines) zero_row }))
    meant_nothing

-- The first line, then the rows. A text without words lacks its first line after its last line.
unfoldable pub page_meant : (last : ℕ) → List TextLine → Meaning
page_meant last [] = meant_nothing (fault_at FIRST (1 + last) 1)
page_meant last (l ∷ lines) =
    let first = first_line_said l.number l.content in
    unless first.fault (rows_meant (get_or first.values 0 0) lines) meant_nothing

abbrev pub most_bytes : ℕ
most_bytes = 65535

unfoldable pub meaning_of : List ℕ → Meaning
meaning_of text =
    pick (ltb most_bytes (length text)) (meant_nothing (fault_at LONG 1 1)) (page_meant (length (lines_of text)) (worded 1 (lines_of text)))
