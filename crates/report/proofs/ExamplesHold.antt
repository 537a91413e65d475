-- What is printed for the paper's sheets A and C6.
use mathlib.Core.Path.{refl}
use Rattle.laws.specs.Choice.{first_of}
use Rattle.laws.specs.Search.{first_from}
use Rattle.laws.specs.Tabulate.{tab_from}
use Rattle.laws.specs.Sums.{sum_to, max_to}
use Rattle.laws.specs.SumsWhere.{sum_where}
use Rattle.laws.specs.Least.{least, solution_from}
use Rattle.sheet.specs.Layout.{word_at, row_of, row_at}
use Rattle.sheet.specs.Ranges.{first_fault}
use Rattle.sheet.specs.Reading.{header_fault, record_fault, read_refusal, set_of, read_sheet}
use Rattle.sheet.specs.Writing.{sheet_of}
use Rattle.analysis.specs.Equations.{busy_at, busy_length, start_at, start, end_at, memory_end, response, judged, verdict_of}
use Rattle.analysis.specs.Bounds.{sum_over, largest_over, blocking, token_taken, equations_of, row_after, worked, analyse_set}
use Rattle.analysis.specs.Analysis.{reading_refusal, reading_bounds, analyse_refusal, analysed}
use Rattle.text.specs.Decimal.{decimal_in, decimal}
use Rattle.text.specs.Lines.{lines_to}
use Rattle.text.specs.Refusing.{refused_line}
use Rattle.report.specs.Report.{accepted_line, row_line, accepted_text, report_of}
use Rattle.report.specs.Examples.{Printed}

pub printed : Printed
unfolding report_of accepted_text lines_to row_line accepted_line refused_line decimal decimal_in analysed analyse_refusal reading_bounds reading_refusal analyse_set worked row_after verdict_of judged response memory_end end_at start start_at busy_length busy_at equations_of token_taken blocking largest_over sum_over sum_where sum_to max_to least solution_from first_from read_sheet set_of read_refusal record_fault header_fault first_fault row_at row_of word_at sheet_of tab_from first_of
printed = record { for_a = refl; for_c6 = refl }
