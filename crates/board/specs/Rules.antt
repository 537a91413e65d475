-- A tick by the rules 1 to 5. Rule 1 gives the state in the middle of the tick, and rules 2 to 5 go from there.
use Rattle.std.specs.Prelude.{ℕ, ◌+◌, ◌-◌, max, Bool, false, not, ◌&&◌, ltb, eqb, Option, Some, None}
use Rattle.laws.specs.Choice.{pick}
use Rattle.laws.specs.Search.{first}
use Rattle.laws.specs.Tabulate.{tab}
use Rattle.laws.specs.Words.{word}
use Rattle.sheet.specs.Ranges.{most_processors, most_rows, memory_of, computation_of}
use Rattle.sheet.specs.declared.Row.{Row}
use Rattle.board.specs.declared.Job.{Job}
use Rattle.board.specs.declared.State.{State}
use Rattle.board.specs.declared.Standing.{Standing}
use Rattle.board.specs.declared.Standing.TheVariants.{Absent, Waiting, Memory, Computation}
use Rattle.board.specs.States.{row_at, job_at, hand_at, processor_at, standing_at, is_absent, is_waiting, is_memory, holds}

-- A job at another standing.
abbrev pub stand_as : Job → Standing → Job
stand_as job standing =
    record { ever = job.ever; last = job.last; standing = standing; worst = job.worst; completed = job.completed }

-- A state with the hands and the jobs given for each processor and each row.
abbrev pub state_of : State → ℕ → (ℕ → Option ℕ) → (ℕ → Job) → State
state_of s clock hand job =
    record { set = s.set; clock = clock; hands = tab most_processors hand; jobs = tab most_rows job }

-- 1. Each processor with none in hand takes its first waiting row,
unfoldable pub waits_on : State → ℕ → ℕ → Bool
waits_on s p i = is_waiting (standing_at s i) && eqb (processor_at s i) p

unfoldable pub first_waiting : State → ℕ → ℕ
first_waiting s p = first most_rows (waits_on s p)

abbrev pub takes : Option ℕ → ℕ → Option ℕ
takes None row = pick (ltb row most_rows) (Some row) None
takes (Some i) row = Some i

unfoldable pub hand_taken : State → ℕ → Option ℕ
hand_taken s p = takes (hand_at s p) (first_waiting s p)

-- into memory (m ticks), or into computation where m = 0.
abbrev pub begins : Row → Standing → Standing
begins row Absent = Absent
begins row Waiting = pick (eqb (memory_of row) 0) (Computation (computation_of row)) (Memory (memory_of row))
begins row (Memory left) = Memory left
begins row (Computation left) = Computation left

unfoldable pub job_taken : State → ℕ → Job
job_taken s i =
    pick (holds (hand_taken s (processor_at s i)) i) (stand_as (job_at s i) (begins (row_at s i) (standing_at s i))) (job_at s i)

unfoldable pub taken : State → State
taken s = state_of s s.clock (hand_taken s) (job_taken s)

-- 2. The token goes to the highest-ranked processor whose job is in memory, or to none.
unfoldable pub in_memory : State → Option ℕ → Bool
in_memory s None = false
in_memory s (Some i) = is_memory (standing_at s i)

unfoldable pub token_at : State → ℕ
token_at s = first most_processors (λ p. in_memory s (hand_at s p))

abbrev pub token_named : ℕ → Option ℕ
token_named p = pick (ltb p most_processors) (Some p) None

unfoldable pub has_token : State → ℕ → Bool
has_token s i = eqb (processor_at s i) (token_at s)

-- Rules 3 to 5 are said for any `has`, which says of a row whether its job may do a memory tick now; here that is `has_token`.

-- 3. That job loses one memory tick; every job in computation loses one. Memory at 0 turns to computation with c ticks left,
-- if c isn't 0. A job with nothing left is absent.
abbrev pub computes : ℕ → Standing
computes left = pick (eqb left 0) Absent (Computation left)

abbrev pub fetches : Row → ℕ → Standing
fetches row left = pick (eqb left 0) (computes (computation_of row)) (Memory left)

abbrev pub steps : Row → Bool → Standing → Standing
steps row token Absent = Absent
steps row token Waiting = Waiting
steps row token (Memory left) = pick token (fetches row (left - 1)) (Memory left)
steps row token (Computation left) = computes (left - 1)

-- 4. A job with nothing left completes: its response is t + 1 less its release; the row's worst and completed number follow;
-- the row is absent
abbrev pub finishes : Row → Bool → Standing → Bool
finishes row token standing = not (is_absent standing) && is_absent (steps row token standing)

abbrev pub finished : ℕ → Job → Job
finished t job =
    record {
      ever = job.ever;
      last = job.last;
      standing = Absent;
      worst = max job.worst (t + 1 - job.last);
      completed = job.completed + 1;
    }

unfoldable pub completes_by : (ℕ → Bool) → State → ℕ → Bool
completes_by has s i = finishes (row_at s i) (has i) (standing_at s i)

unfoldable pub job_run_by : (ℕ → Bool) → State → ℕ → Job
job_run_by has s i =
    pick (completes_by has s i) (finished s.clock (job_at s i)) (stand_as (job_at s i) (steps (row_at s i) (has i) (standing_at s i)))

-- and its processor free.
unfoldable pub frees_by : (ℕ → Bool) → State → Option ℕ → Option ℕ
frees_by has s None = None
frees_by has s (Some i) = pick (completes_by has s i) None (Some i)

-- 5. The clock is t + 1.
unfoldable pub ran_by : (ℕ → Bool) → State → State
ran_by has s = state_of s (s.clock + 1) (λ p. frees_by has s (hand_at s p)) (job_run_by has s)

-- The completed rows, as a word: bit i says that row i completed.
unfoldable pub completed_rows_by : (ℕ → Bool) → State → ℕ
completed_rows_by has s = word most_rows (completes_by has s)

-- Rules 3 to 5 on this board.
abbrev pub completes : State → ℕ → Bool
completes s = completes_by (has_token s) s

abbrev pub job_run : State → ℕ → Job
job_run s = job_run_by (has_token s) s

abbrev pub frees : State → Option ℕ → Option ℕ
frees s = frees_by (has_token s) s

abbrev pub ran : State → State
ran s = ran_by (has_token s) s

abbrev pub completed_rows : State → ℕ
completed_rows s = completed_rows_by (has_token s) s
