use mathlib.Core.Path.{◌≡◌, refl}
use mathlib.Core.List.{[]}
use Rattle.laws.specs.Sums.{sum_to, max_to}
use Rattle.laws.specs.SumsWhere.{sum_where}
use Rattle.laws.specs.Least.{least, solution_from}
use Rattle.laws.specs.LeastLaws.{climb}
use Rattle.std.specs.Prelude.{None}
use Rattle.laws.specs.Search.{first_from}
use Rattle.analysis.specs.Equations.{busy_at, busy_length, start_at, start, end_at, memory_end, response, judged, verdict_of}
use Rattle.analysis.specs.Bounds.{sum_over, largest_over, blocking, token_taken, equations_of, row_after, worked, analyse_set, bound_in, BusyAt}
use Rattle.analysis.proofs.VerdictLaws.{verdict_busy}
use Rattle.analysis.proofs.RowLaws.{busy_climbs}
use Rattle.analysis.specs.Examples.{table, Holds, sheets, HoldOfSheets}
use Rattle.laws.specs.Choice.{first_of}
use Rattle.laws.specs.Tabulate.{tab_from}
use Rattle.sheet.specs.Layout.{word_at, row_of, row_at}
use Rattle.sheet.specs.Ranges.{first_fault}
use Rattle.sheet.specs.Reading.{header_fault, record_fault, read_refusal, set_of, read_sheet}
use Rattle.sheet.specs.Writing.{sheet_of}
use Rattle.sheet.specs.Examples.{example_e1}
use Rattle.analysis.specs.Analysis.{reading_refusal, reading_bounds, analyse_refusal, analysed}

-- the climb passes the limit in few steps
busy_e1 : busy_length (equations_of example_e1 (bound_in []) 0) ≡ None
unfolding climb busy_at equations_of blocking largest_over token_taken sum_over sum_where sum_to max_to
busy_e1 = busy_climbs example_e1 (bound_in []) 0

holds_e1 : analyse_set example_e1 ≡ BusyAt 0
unfolding analyse_set worked row_after
holds_e1 = rw (verdict_busy (equations_of example_e1 (bound_in []) 0) 3 busy_e1, worked, row_after)

pub holds : Holds table × HoldOfSheets sheets
unfolding
    analyse_set worked row_after verdict_of judged response memory_end end_at start start_at busy_length busy_at equations_of token_taken
    blocking largest_over sum_over sum_where sum_to max_to least solution_from first_from tab_from first_of
    analyse_refusal analysed reading_refusal reading_bounds read_sheet read_refusal set_of header_fault record_fault first_fault row_at row_of word_at sheet_of
holds = (
  (refl, (refl, (refl, (refl, (refl, (holds_e1, (refl, (refl, (refl, tt))))))))),
  (refl, refl, (refl, refl, (refl, refl, (refl, refl, (refl, refl, tt))))),
)
