-- What the private functions compute, and how what they hand back is said in Words and Meaning.
use Rattle.std.specs.Prelude.{ℕ, ◌+◌, ◌<◌, ◌≡◌, List, [], ◌∷◌, length, get_or, drop, ltb, Option, Some, None, Result, Ok, Err}
use Rattle.laws.specs.Choice.{pick}
use Rattle.laws.specs.Tabulate.{padded}
use Rattle.sheet.specs.declared.Row.{Row}
use Rattle.sheet.specs.declared.Set.{Set}
use Rattle.sheet.specs.Ranges.{zero_row}
use Rattle.sheet_text.specs.Faults.{fault_at, no_fault, number_of, numbered}
use Rattle.sheet_text.specs.Words.{Number, Field, bytes_before, lines_of, content_of}
use Rattle.sheet_text.specs.Meaning.{TextLine, line_at, worded, most_numbers, Numbers, faulty_numbers, RowSaid, Meaning, meant, meant_nothing}
use Rattle.sheet_text.specs.declared.Mark.TheVariants.{Newline}
use Rattle.sheet_text.specs.declared.faults.Wrong.{Wrong}
use Rattle.sheet_text.specs.declared.faults.Fault as found
use Rattle.sheet_text.specs.declared.Word.{Word}
use Rattle.sheet_text.specs.declared.lines.Line.{Line}
use Rattle.sheet_text.specs.declared.lines.Lines.{Lines}

-- A value that passes 2 to the 32 counts as that.
abbrev pub too_large : ℕ
too_large = 4294967296

abbrev pub capped : ℕ → ℕ
capped v = pick (ltb too_large v) too_large v

-- A number, or what is wrong with it.
abbrev pub said_number : Result ℕ Wrong → Number
said_number (Ok value) = record { fault = 0; value = value }
said_number (Err wrong) = record { fault = number_of wrong; value = 0 }

-- Numbers, each in its place.
abbrev pub number_at : List ℕ → ℕ → ℕ
number_at values k = get_or values k 0

abbrev pub said_numbers : (count : ℕ) → Result (List ℕ) found.Fault → Numbers
said_numbers count (Ok values) = record { fault = no_fault; values = padded most_numbers count (number_at values) 0 }
said_numbers count (Err fault) = faulty_numbers (numbered fault)

-- N alone.
abbrev pub said_first : Result ℕ found.Fault → Numbers
said_first (Ok N) = record { fault = no_fault; values = N ∷ 0 ∷ 0 ∷ 0 ∷ 0 ∷ [] }
said_first (Err fault) = faulty_numbers (numbered fault)

-- A faulty row's numbers are all 0.
abbrev pub said_row : Result Row found.Fault → RowSaid
said_row (Ok row) = record { fault = no_fault; row = row }
said_row (Err fault) = record { fault = numbered fault; row = zero_row }

abbrev pub said_meaning : Result Set found.Fault → Meaning
said_meaning (Ok set) = meant set
said_meaning (Err fault) = meant_nothing (numbered fault)

-- What line `number` says next from a place on: a number, with the places of its word, or a fault, with its column.
abbrev pub SaysNext : (number place : ℕ) → Field → Result Word found.Fault → Type 0
SaysNext number place field (Ok word) =
    (field.fault ≡ 0) × (word.place ≡ place + field.place) × (word.stop ≡ place + field.stop) × (word.value ≡ field.value)
SaysNext number place field (Err fault) = numbered fault ≡ fault_at field.fault number (place + 1 + field.place)

-- The first line of what is left of a text, and what stands after it.
abbrev pub first_line : List ℕ → List ℕ
first_line text = bytes_before Newline text

abbrev pub after_line : List ℕ → List ℕ
after_line text = drop (length (first_line text) + 1) text

-- The first line has been taken off what was left.
abbrev pub Cuts : Lines → Option Line → Lines → Type 0
Cuts before None after = (length before.left.now ≡ 0) × (after.number ≡ before.number) × (after.left.now ≡ before.left.now)
Cuts before (Some line) after =
    (0 < length before.left.now)
    × (line.number ≡ before.number)
    × (line.content.now ≡ content_of (first_line before.left.now))
    × (after.number ≡ before.number + 1)
    × (after.left.now ≡ after_line before.left.now)

-- The lines with words that are left.
abbrev pub lines_left : Lines → List TextLine
lines_left lines = worded lines.number (lines_of lines.left.now)

abbrev pub text_line : Line → TextLine
text_line line = line_at line.number line.content.now

-- The next line with words has been taken off. Where there is none, all lines have been, and are counted.
abbrev pub Finds : Lines → Option Line → Lines → Type 0
Finds before None after = (lines_left before ≡ []) × (after.number ≡ before.number + length (lines_of before.left.now))
Finds before (Some line) after = (lines_left before ≡ text_line line ∷ lines_left after) × (length after.left.now < length before.left.now)
