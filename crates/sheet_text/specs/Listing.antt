-- Listing: a sheet as text, in the plain layout.
use Rattle.std.specs.Prelude.{ℕ, List, [], ◌∷◌, ◌++◌}
use Rattle.laws.specs.Choice.{pick}
use Rattle.sheet.specs.declared.Row.{Row}
use Rattle.sheet.specs.declared.Set.{Set}
use Rattle.sheet.specs.Refusals.{accepts}
use Rattle.sheet.specs.Ranges.{row_in}
use Rattle.sheet.specs.Reading.{read_refusal, read_sheet}
use Rattle.text.specs.Ascii.{ascii}
use Rattle.text.specs.Decimal.{decimal}
use Rattle.text.specs.Lines.{line, lines_to}
use Rattle.text.specs.Refusing.{refused_line}
use Rattle.sheet_text.specs.Meaning.{meaning_of}

unfoldable pub first_text : ℕ → List ℕ
first_text N = line (ascii "processors" ∷ decimal N ∷ [])

-- The comment that names the numbers of a row.
abbrev pub heading : List ℕ
heading = ascii "# processor memory computation period deadline\n"

unfoldable pub row_text : Row → List ℕ
row_text r =
    line (decimal r.processor ∷ decimal r.memory ∷ decimal r.computation ∷ decimal r.period ∷ decimal r.deadline ∷ [])

abbrev pub row_text_of : (ℕ → Row) → ℕ → List ℕ
row_text_of row i = row_text (row i)

unfoldable pub listing : Set → List ℕ
listing set = first_text set.processors ++ (heading ++ lines_to (row_text_of (row_in set)) set.count)

-- A sheet that does not read prints its refusal.
unfoldable pub listed : List ℕ → List ℕ
listed sheet = pick (accepts (read_refusal sheet)) (listing (read_sheet sheet).set) (refused_line (read_refusal sheet))

-- What a text says, in the plain layout.
unfoldable pub plain : List ℕ → List ℕ
plain text = listing (meaning_of text).set
