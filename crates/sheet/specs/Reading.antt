-- Reading: refusals 1 to 4 in that order, then each record in turn, 5 to 9.
use Rattle.std.specs.Prelude.{ℕ, not, List, ◌∷◌, length, ltb, eqb}
use Rattle.laws.specs.Choice.{pick, ◌gives◌, first_of}
use Rattle.laws.specs.Tabulate.{padded}
use Rattle.sheet.specs.Refusals.{CUT, VERSION, LENGTH, RECORD, refused, accepts, answered, or_else}
use Rattle.sheet.specs.Layout.{version_of, stated_length, processors_of, count_of, length_for, length_byte, row_of, row_at}
use Rattle.sheet.specs.Ranges.{most_rows, count_table, row_table, before, first_fault, zero_row, zero_set}
use Rattle.sheet.specs.declared.Row.{Row}
use Rattle.sheet.specs.declared.Set.{Set}
use Rattle.sheet.specs.declared.Refusal.{Refusal}
use Rattle.sheet.specs.declared.Reading.{Reading}

-- What is wrong with the header.
unfoldable pub header_fault : List ℕ → ℕ
header_fault s =
    first_of
    (ltb (length s) 5 gives CUT
    ∷ not (eqb (version_of s) 1) gives VERSION
    ∷ not (eqb (stated_length s) (length s)) gives LENGTH
    ∷ not (eqb (stated_length s) (length_for (count_of s))) gives LENGTH
    ∷ count_table (processors_of s) (count_of s))

-- What is wrong with record i.
unfoldable pub record_fault : List ℕ → ℕ → ℕ
record_fault s i = first_of (not (eqb (length_byte s i) 17) gives RECORD ∷ row_table (processors_of s) (before (row_at s) i) (row_at s i))

unfoldable pub read_refusal : List ℕ → Refusal
read_refusal s = or_else (refused (header_fault s) 0) (first_fault (record_fault s) (count_of s))

-- The set that a sheet says; its rows past n are zero.
unfoldable pub set_of : List ℕ → Set
set_of s =
    record { processors = processors_of s; count = count_of s; rows = padded most_rows (count_of s) (row_at s) zero_row }

-- A refused read hands back the all-zero set.
unfoldable pub read_sheet : List ℕ → Reading
read_sheet s = record { refusal = answered (read_refusal s); set = pick (accepts (read_refusal s)) (set_of s) zero_set }

-- The row that a part of a sheet says; the zero row where the part is not 17 bytes long.
unfoldable pub row_of_part : List ℕ → Row
row_of_part part = pick (eqb (length part) 17) (row_of part) zero_row
