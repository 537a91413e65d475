-- The runs of examples A and J, by computing the definitions.
use Prim.Native.Nat.{ℕ, zero, suc}
use mathlib.Core.Path.{◌≡◌, refl}
use mathlib.Core.Bool.{true}
use Rattle.laws.specs.Choice.{first_of}
use Rattle.laws.specs.Search.{first_from, all_from}
use Rattle.laws.specs.Tabulate.{tab_from}
use Rattle.laws.specs.Words.{word_from}
use Rattle.sheet.specs.Ranges.{count_fault, row_fault, set_row_fault, first_fault, set_refusal}
use Rattle.sheet.specs.Examples.{example_a, example_j}
use Rattle.board.specs.declared.State.{State}
use Rattle.board.specs.declared.Standing.TheVariants.{Absent}
use Rattle.board.specs.States.{job_at, start_set}
use Rattle.board.specs.Shape.{set_passes, row_is_zero, absent_with_zeros, job_is_zero, at_most_clock, ever_or_zero, standing_fits, job_fits, row_fits, hand_fits, shape_ok}
use Rattle.board.specs.Rules.{waits_on, first_waiting, hand_taken, job_taken, taken, in_memory, token_at, has_token, completes_by, job_run_by, frees_by, ran_by, completed_rows_by}
use Rattle.board.specs.Calls.{release_number, released, release_of, tick_number, ticked, tick_of}

-- The rules in full, so that a run computes.
abbrev after : State → ℕ → State
after s i = (release_of s i).state

abbrev ticks : ℕ → State → State
ticks zero s = s
ticks (suc k) s = ticks k (tick_of s).state

abbrev both_released : State
both_released = after (after (start_set example_a) 0) 1

-- A, both released at 0: responses 2 and 6.
pub run_a : (job_at (ticks 2 both_released) 0 ≡ record { ever = true; last = 0; standing = Absent; worst = 2; completed = 1 })
    × (job_at (ticks 6 both_released) 1 ≡ record { ever = true; last = 0; standing = Absent; worst = 6; completed = 1 })
unfolding first_of first_from all_from tab_from word_from count_fault row_fault set_row_fault first_fault set_refusal start_set set_passes row_is_zero absent_with_zeros job_is_zero at_most_clock ever_or_zero standing_fits job_fits row_fits hand_fits shape_ok waits_on first_waiting hand_taken job_taken taken in_memory token_at has_token completes_by job_run_by frees_by ran_by completed_rows_by release_number released release_of tick_number ticked tick_of
run_a = (refl, refl)

-- J: row 1 released at 0, row 0 at 1, row 2 at 3, row 0 at 7. Row 2 responds in 7.
pub run_j : job_at (ticks 3 (after (ticks 4 (after (ticks 2 (after (ticks 1 (after (start_set example_j) 1)) 0)) 2)) 0)) 2 ≡ record { ever = true; last = 3; standing = Absent; worst = 7; completed = 1 }
unfolding first_of first_from all_from tab_from word_from count_fault row_fault set_row_fault first_fault set_refusal start_set set_passes row_is_zero absent_with_zeros job_is_zero at_most_clock ever_or_zero standing_fits job_fits row_fits hand_fits shape_ok waits_on first_waiting hand_taken job_taken taken in_memory token_at has_token completes_by job_run_by frees_by ran_by completed_rows_by release_number released release_of tick_number ticked tick_of
run_j = refl
