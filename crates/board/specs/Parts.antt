-- What the private functions compute. The calls' own definitions stand in Shape, Rules and Calls.
use Rattle.std.specs.Prelude.{ℕ, ◌≤◌, ◌<◌, ◌≡◌, Bool, true, false, ◌&&◌, leb, eqb, Option, Some, None, unwrap_or}
use Rattle.laws.specs.Choice.{pick}
use Rattle.sheet.specs.Ranges.{most_processors, most_rows, row_fault}
use Rattle.sheet.specs.declared.Row.{Row}
use Rattle.board.specs.declared.Job.{Job}
use Rattle.board.specs.declared.Turn.{Turn}
use Rattle.board.specs.declared.Standing.{Standing}
use Rattle.board.specs.States.{most_clock, is_absent, is_memory, holds}
use Rattle.board.specs.Shape.{row_is_zero, job_is_zero, job_fits, own_row}
use Rattle.board.specs.Rules.{stand_as, begins, steps, finishes, finished}

-- The row in a hand; another number where there is none.
abbrev pub row_or : Option ℕ → ℕ → ℕ
row_or hand other = unwrap_or hand other

-- A hand of processor p, where the row in it stands on the processor `on`.
abbrev pub hand_is_own : Option ℕ → (on p count processors : ℕ) → Bool
hand_is_own None on p count processors = true
hand_is_own (Some i) on p count processors = own_row i on p count processors

-- The check of a state: its head; then row i below n, after a row on the processor `last`, with its processor's hand and its job; then
-- what is past n; then the hands.
abbrev pub head_fits : (N n clock : ℕ) → Bool
head_fits N n clock = leb 1 N && leb N most_processors && leb n most_rows && leb clock most_clock

unfoldable pub part_fits : (N last clock i : ℕ) → Row → Option ℕ → Job → Bool
part_fits N last clock i row hand job = eqb (row_fault N last row) 0 && job_fits clock row (holds hand i) job

unfoldable pub part_is_zero : Row → Job → Bool
part_is_zero row job = row_is_zero row && job_is_zero job

-- A job that can go on for a tick.
pub record Timely (clock : ℕ) (job : Job) : Type 0 where
  pub early : clock < most_clock
  pub last : job.last ≤ clock
  pub completed : job.completed ≤ clock

pub record InTurn (clock : ℕ) (job : Job) : Type 0 where
  pub live : is_absent job.standing ≡ false
  pub timely : Timely clock job

-- A processor's turn with row k, which it took or had in hand: it begins, has the token if that is free and the job in memory,
-- steps and completes.
abbrev pub token_in : Row → Job → Bool → Bool
token_in row job free = is_memory (begins row job.standing) && free

abbrev pub after_in : Row → Job → Bool → Standing
after_in row job free = steps row (token_in row job free) (begins row job.standing)

abbrev pub done_in : Row → Job → Bool → Bool
done_in row job free = finishes row (token_in row job free) (begins row job.standing)

unfoldable pub turn_of : ℕ → Row → Job → Bool → ℕ → Turn
turn_of k row job free clock =
    record {
      job = pick (done_in row job free) (finished clock job) (stand_as job (after_in row job free));
      hand = pick (done_in row job free) None (Some k);
      token = token_in row job free;
    }
