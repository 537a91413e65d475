-- The ten examples hold, by computing the definitions.
use mathlib.Core.Path.{refl}
use mathlib.Core.List.{[], ◌∷◌}
use Rattle.laws.specs.Choice.{first_of}
use Rattle.laws.specs.Search.{first_from, all_from}
use Rattle.laws.specs.Tabulate.{tab_from}
use Rattle.laws.specs.Words.{word_from}
use Rattle.sheet.specs.Ranges.{count_fault, row_fault, set_row_fault, first_fault, set_refusal}
use Rattle.analysis.proofs.ExamplesHold as analysed
use Rattle.board.specs.States.{start_set}
use Rattle.board.specs.Shape.{set_passes, row_is_zero, absent_with_zeros, job_is_zero, at_most_clock, ever_or_zero, standing_fits, job_fits, row_fits, hand_fits, shape_ok}
use Rattle.board.specs.Rules.{waits_on, first_waiting, hand_taken, job_taken, taken, in_memory, token_at, has_token, completes_by, job_run_by, frees_by, ran_by, completed_rows_by}
use Rattle.board.specs.Calls.{release_number, released, release_of, tick_number, ticked, tick_of}
use Rattle.runs.specs.Runs.{calls_on}
use Rattle.promise.specs.Promises.{SheetPromised}
use Rattle.promise.proofs.Promised.{promised_of_sheets}
use Rattle.promise.specs.Examples.{table, Holds}
use Rattle.sheet.specs.Examples.{sheet_a}

pub holds : Holds table
unfolding calls_on first_of first_from all_from tab_from word_from count_fault row_fault set_row_fault first_fault set_refusal start_set set_passes row_is_zero absent_with_zeros job_is_zero at_most_clock ever_or_zero standing_fits job_fits row_fits hand_fits shape_ok waits_on first_waiting hand_taken job_taken taken in_memory token_at has_token completes_by job_run_by frees_by ran_by completed_rows_by release_number released release_of tick_number ticked tick_of
holds =
    let a = (analysed.holds).0 in
    (a.0, refl, (a.1.0, refl, (a.1.1.0, refl, (a.1.1.1.0, refl, (a.1.1.1.1.0, refl, (a.1.1.1.1.0, refl, (a.1.1.1.1.1.0, refl, (a.1.1.1.1.1.1.0, refl, (a.1.1.1.1.1.1.1.0, refl, (a.1.1.1.1.1.1.1.1.0, refl, tt))))))))))

-- The promises are about something: they hold of A's bytes, with places for its bounds.
pub promises_a : SheetPromised sheet_a (7 ∷ 7 ∷ 7 ∷ [])
promises_a = promised_of_sheets sheet_a (7 ∷ 7 ∷ 7 ∷ []) (analysed.holds).1.0
