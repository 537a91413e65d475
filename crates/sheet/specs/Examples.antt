-- The paper's worked examples: their sets, and the sheets that it spells.
use Rattle.std.specs.Prelude.{ℕ, ◌-◌, List, [], ◌∷◌, ◌++◌, length, replicate}
use Rattle.sheet.specs.declared.Row.{Row}
use Rattle.sheet.specs.declared.Set.{Set}
use Rattle.sheet.specs.Ranges.{most_rows, zero_row}

-- A row as the paper writes it: (p; m, c, T, D).
abbrev pub row : ℕ → ℕ → ℕ → ℕ → ℕ → Row
row p m c T D = record { processor = p; memory = m; computation = c; period = T; deadline = D }

abbrev pub set_with : ℕ → List Row → Set
set_with N rows = record { processors = N; count = length rows; rows = rows ++ replicate (most_rows - length rows) zero_row }

abbrev pub example_a : Set
example_a = set_with 2 (row 0 1 1 4 4 ∷ row 1 2 3 12 12 ∷ [])

abbrev pub example_b : Set
example_b = set_with 1 (row 0 1 1 4 4 ∷ row 0 1 1 8 8 ∷ row 0 1 1 16 16 ∷ [])

abbrev pub example_c : Set
example_c = set_with 1 (row 0 1 1 5 5 ∷ row 0 1 1 7 7 ∷ row 0 1 1 7 7 ∷ [])

abbrev pub example_c6 : Set
example_c6 = set_with 1 (row 0 1 1 5 5 ∷ row 0 1 1 7 7 ∷ row 0 1 1 7 6 ∷ [])

abbrev pub example_j : Set
example_j = set_with 2 (row 0 2 0 6 6 ∷ row 0 0 3 12 12 ∷ row 1 3 0 24 24 ∷ [])

abbrev pub example_e1 : Set
example_e1 = set_with 1 (row 0 2 2 3 3 ∷ [])

abbrev pub example_e2 : Set
example_e2 = set_with 1 (row 0 2 2 4 4 ∷ [])

abbrev pub example_e3 : Set
example_e3 = set_with 1 (row 0 2 2 10 3 ∷ [])

abbrev pub example_empty : Set
example_empty = set_with 1 []

-- Sheet A in hexadecimal.
abbrev pub sheet_a : List ℕ
sheet_a =
    0x01 ∷ 0x00 ∷ 0x29 ∷ 0x02 ∷ 0x02
    ∷ 0x11 ∷ 0x00 ∷ 0 ∷ 0 ∷ 0 ∷ 0x01 ∷ 0 ∷ 0 ∷ 0 ∷ 0x01 ∷ 0 ∷ 0 ∷ 0 ∷ 0x04 ∷ 0 ∷ 0 ∷ 0 ∷ 0x04
    ∷ 0x11 ∷ 0x01 ∷ 0 ∷ 0 ∷ 0 ∷ 0x02 ∷ 0 ∷ 0 ∷ 0 ∷ 0x03 ∷ 0 ∷ 0 ∷ 0 ∷ 0x0C ∷ 0 ∷ 0 ∷ 0 ∷ 0x0C
    ∷ []

-- Empty: bytes 01 00 05 01 00.
abbrev pub sheet_empty : List ℕ
sheet_empty = 0x01 ∷ 0x00 ∷ 0x05 ∷ 0x01 ∷ 0x00 ∷ []
