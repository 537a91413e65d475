-- The sheets that the paper spells are those of its sets, and read as them.
use Rattle.std.specs.Prelude.{Ok}
use mathlib.Core.Path.{◌≡◌, refl}
use Rattle.laws.specs.Choice.{first_of}
use Rattle.laws.specs.Search.{first_from}
use Rattle.laws.specs.Tabulate.{tab_from}
use Rattle.sheet.specs.Layout.{word_at, row_of, row_at}
use Rattle.sheet.specs.Ranges.{first_fault}
use Rattle.sheet.specs.Reading.{header_fault, record_fault, read_refusal, set_of, read_sheet}
use Rattle.sheet.specs.Writing.{sheet_of}
use Rattle.sheet.specs.Examples.{example_a, example_empty, sheet_a, sheet_empty}

pub written : (sheet_of example_a ≡ sheet_a) × (sheet_of example_empty ≡ sheet_empty)
unfolding sheet_of
written = (refl, refl)

pub read : (read_sheet sheet_a ≡ record { refusal = Ok tt; set = example_a }) × (read_sheet sheet_empty ≡ record { refusal = Ok tt; set = example_empty })
unfolding read_sheet read_refusal set_of header_fault record_fault first_fault first_from first_of tab_from row_at row_of word_at
read = (refl, refl)
