-- The layout of a sheet: where each number stands among its bytes.
use Rattle.std.specs.Prelude.{ℕ, ◌+◌, ◌*◌, List, get_or, take, drop}
use Rattle.sheet.specs.declared.Row.{Row}

-- The four bytes from place i, big-endian.
unfoldable pub word_at : List ℕ → ℕ → ℕ
word_at s i = get_or s i 0 * 16777216 + get_or s (i + 1) 0 * 65536 + get_or s (i + 2) 0 * 256 + get_or s (i + 3) 0

-- The header.
abbrev pub version_of : List ℕ → ℕ
version_of s = get_or s 0 0

abbrev pub stated_length : List ℕ → ℕ
stated_length s = get_or s 1 0 * 256 + get_or s 2 0

-- N
abbrev pub processors_of : List ℕ → ℕ
processors_of s = get_or s 3 0

-- n
abbrev pub count_of : List ℕ → ℕ
count_of s = get_or s 4 0

-- The length of a sheet of n rows.
abbrev pub length_for : ℕ → ℕ
length_for n = 5 + 18 * n

-- Record r: a length byte, and then the row's 17 bytes.
abbrev pub record_start : ℕ → ℕ
record_start r = 5 + 18 * r

abbrev pub row_start : ℕ → ℕ
row_start r = 6 + 18 * r

abbrev pub length_byte : List ℕ → ℕ → ℕ
length_byte s r = get_or s (record_start r) 0

abbrev pub part_of : List ℕ → ℕ → List ℕ
part_of s r = take 17 (drop (row_start r) s)

-- The row that 17 bytes say: processor, memory length m, computation length c, period T and deadline D.
unfoldable pub row_of : List ℕ → Row
row_of part =
    record {
      processor = get_or part 0 0;
      memory = word_at part 1;
      computation = word_at part 5;
      period = word_at part 9;
      deadline = word_at part 13;
    }

-- Row r of a sheet.
unfoldable pub row_at : List ℕ → ℕ → Row
row_at s r = row_of (part_of s r)
