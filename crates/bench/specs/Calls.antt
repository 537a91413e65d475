-- Many calls on one board: in each round the first rows are released, one after the other, and then ticks are made. What comes
-- out is a digest of every answer and of the state reached.
use Rattle.std.specs.Prelude.{ℕ, zero, suc, ◌%◌, List, ltb, Option, None, Some}
use Rattle.laws.specs.Choice.{pick}
use Rattle.sheet.specs.Refusals.{carried}
use Rattle.sheet.specs.Ranges.{most_rows, most_processors}
use Rattle.board.specs.declared.Job.{Job}
use Rattle.board.specs.declared.State.{State}
use Rattle.board.specs.States.{job_at}
use Rattle.board.specs.Calls.{start_of, release_of, tick_of, Said, said}
use Rattle.bench.specs.Digest.{mix}

-- The token's processor; past all of them where nobody has it.
abbrev pub token_number : Option ℕ → ℕ
token_number None = most_processors
token_number (Some p) = p

unfoldable pub mix_beat : ℕ → Said → ℕ
mix_beat digest beat = mix (mix (mix digest beat.refusal.number) (token_number beat.token)) beat.completed

unfoldable pub mix_job : ℕ → Job → ℕ
mix_job digest job = mix (mix (mix digest job.last) job.worst) job.completed

-- The clock and the first jobs.
unfoldable pub mix_jobs : ℕ → State → ℕ → ℕ
mix_jobs digest s zero = mix digest s.clock
mix_jobs digest s (suc i) = mix_job (mix_jobs digest s i) (job_at s i)

-- The state reached, and the digest of the answers so far.
pub record Run : Type 0 where
  pub state : State
  pub digest : ℕ

unfoldable pub with_release : Run → ℕ → Run
with_release run row =
    record { state = (release_of run.state row).state; digest = mix run.digest (carried (release_of run.state row).answer).number }

unfoldable pub with_tick : Run → Run
with_tick run = record { state = (tick_of run.state).state; digest = mix_beat run.digest (said (tick_of run.state).answer) }

-- The call at a place of its round.
unfoldable pub with_call : (releases place : ℕ) → Run → Run
with_call releases place run = pick (ltb place releases) (with_release run place) (with_tick run)

-- A number of calls, in rounds of a given length.
unfoldable pub with_calls : (releases round calls : ℕ) → Run → Run
with_calls releases round zero run = run
with_calls releases round (suc j) run = with_call releases (j % round) (with_calls releases round j run)

unfoldable pub begin : List ℕ → Run
begin sheet = record { state = (start_of sheet).state; digest = (carried (start_of sheet).refusal).number }

unfoldable pub outcome : Run → ℕ
outcome run = mix_jobs run.digest run.state most_rows
