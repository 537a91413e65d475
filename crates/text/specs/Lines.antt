-- Lines of words, and lines one after the other.
use Rattle.std.specs.Prelude.{ℕ, zero, suc, List, [], ◌∷◌, ◌++◌}
use Rattle.text.specs.Ascii.{ascii}

-- Words parted by single spaces, and the line's end.
abbrev pub line : List (List ℕ) → List ℕ
line [] = ascii "\n"
line (word ∷ []) = word ++ ascii "\n"
line (word ∷ next ∷ more) = word ++ (ascii " " ++ line (next ∷ more))

-- Lines 0 to n - 1.
unfoldable pub lines_to : (ℕ → List ℕ) → ℕ → List ℕ
lines_to line_of zero = []
lines_to line_of (suc n) = lines_to line_of n ++ line_of n
