-- What is printed for a refusal.
use Rattle.std.specs.Prelude.{ℕ, List, [], ◌∷◌}
use Rattle.sheet.specs.declared.Refusal.{Refusal}
use Rattle.text.specs.Ascii.{ascii}
use Rattle.text.specs.Lines.{line}
use Rattle.text.specs.Decimal.{decimal}

-- One line: `refused`, number, row, instance.
unfoldable pub refused_line : Refusal → List ℕ
refused_line r = line (ascii "refused" ∷ decimal r.number ∷ decimal r.row ∷ decimal r.instance ∷ [])
