-- What is printed for a sheet.
use Rattle.std.specs.Prelude.{ℕ, List, [], ◌∷◌, ◌++◌, get_or, replicate}
use Rattle.laws.specs.Choice.{pick}
use Rattle.sheet.specs.declared.Row.{Row}
use Rattle.sheet.specs.declared.Set.{Set}
use Rattle.sheet.specs.Refusals.{accepts}
use Rattle.sheet.specs.Ranges.{most_rows, row_in}
use Rattle.sheet.specs.Reading.{read_sheet}
use Rattle.analysis.specs.Analysis.{analyse_refusal, analysed}
use Rattle.text.specs.Ascii.{ascii}
use Rattle.text.specs.Lines.{line, lines_to}
use Rattle.text.specs.Decimal.{decimal}
use Rattle.text.specs.Refusing.{refused_line}

-- The verdict and n.
unfoldable pub accepted_line : ℕ → List ℕ
accepted_line n = line (ascii "accepted" ∷ decimal n ∷ [])

abbrev pub header : List ℕ
header = line (ascii "row" ∷ ascii "processor" ∷ ascii "bound" ∷ ascii "deadline" ∷ [])

-- Row, processor, bound, deadline.
unfoldable pub row_line : ℕ → Row → ℕ → List ℕ
row_line i r bound = line (decimal i ∷ decimal r.processor ∷ decimal bound ∷ decimal r.deadline ∷ [])

-- The line of row i of a set.
abbrev pub line_of : (ℕ → Row) → List ℕ → ℕ → List ℕ
line_of row bounds i = row_line i (row i) (get_or bounds i 0)

unfoldable pub accepted_text : Set → List ℕ → List ℕ
accepted_text set bounds = accepted_line set.count ++ (header ++ lines_to (line_of (row_in set) bounds) set.count)

-- There is a place for the bound of every row that a sheet may have.
abbrev pub places : List ℕ
places = replicate most_rows 0

unfoldable pub report_of : List ℕ → List ℕ
report_of sheet =
    pick
    (accepts (analyse_refusal sheet most_rows))
    (accepted_text (read_sheet sheet).set (analysed sheet places))
    (refused_line (analyse_refusal sheet most_rows))
