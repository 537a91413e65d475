-- Writing: 4, then 6 to 9 for each row, then 12; and the bytes written.
use Rattle.std.specs.Prelude.{ℕ, zero, suc, ◌/◌, ◌%◌, List, [], ◌∷◌, ◌++◌, length, drop, ltb}
use Rattle.laws.specs.Choice.{pick, ◌gives◌, first_of}
use Rattle.laws.specs.Tabulate.{padded}
use Rattle.sheet.specs.Refusals.{ROOM, refused, accepts, or_else}
use Rattle.sheet.specs.Layout.{length_for}
use Rattle.sheet.specs.Ranges.{most_rows, zero_row, row_in, set_refusal}
use Rattle.sheet.specs.declared.Row.{Row}
use Rattle.sheet.specs.declared.Set.{Set}
use Rattle.sheet.specs.declared.Refusal.{Refusal}

-- A number's four bytes, big-endian.
abbrev pub word_bytes : ℕ → List ℕ
word_bytes x = x / 16777216 % 256 ∷ x / 65536 % 256 ∷ x / 256 % 256 ∷ x % 256 ∷ []

abbrev pub record_bytes : Row → List ℕ
record_bytes r =
    17 ∷ r.processor ∷ word_bytes r.memory ++ (word_bytes r.computation ++ (word_bytes r.period ++ word_bytes r.deadline))

-- The records of rows 0 to n - 1, one after the other.
abbrev pub records_of : (ℕ → Row) → ℕ → List ℕ
records_of row zero = []
records_of row (suc n) = records_of row n ++ record_bytes (row n)

abbrev pub header_bytes : ℕ → ℕ → List ℕ
header_bytes N n = 1 ∷ length_for n / 256 ∷ length_for n % 256 ∷ N ∷ n ∷ []

-- The sheet of a set; its rows past n are ignored.
unfoldable pub sheet_of : Set → List ℕ
sheet_of set = header_bytes set.processors set.count ++ records_of (row_in set) set.count

unfoldable pub write_refusal : Set → ℕ → Refusal
write_refusal set room = or_else (set_refusal set) (refused (first_of (ltb room (length_for set.count) gives ROOM ∷ [])) 0)

-- What a buffer holds after the set is written to it: the sheet, and then what it held; all that it held, if that is refused.
unfoldable pub written : Set → List ℕ → List ℕ
written set buffer =
    pick (accepts (write_refusal set (length buffer))) (sheet_of set ++ drop (length_for set.count) buffer) buffer

-- A set with its rows past n zeroed.
abbrev pub trimmed : Set → Set
trimmed set =
    record { processors = set.processors; count = set.count; rows = padded most_rows set.count (row_in set) zero_row }
