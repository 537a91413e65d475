-- Work: what a job has still to do, and what a row has done since the start.
use Rattle.std.specs.Prelude.{ℕ, ◌+◌, ◌-◌, ◌*◌, Bool, true, false}
use Rattle.sheet.specs.Ranges.{memory_of, computation_of, length_of}
use Rattle.sheet.specs.declared.Row.{Row}
use Rattle.board.specs.declared.State.{State}
use Rattle.board.specs.declared.Standing.{Standing}
use Rattle.board.specs.declared.Standing.TheVariants.{Absent, Waiting, Memory, Computation}
use Rattle.board.specs.States.{row_at, job_at, standing_at}
use Rattle.board.specs.Rules.{has_token}

-- The ticks that a job at this standing has still to do.
abbrev pub work_left : Row → Standing → ℕ
work_left row Absent = 0
work_left row Waiting = length_of row
work_left row (Memory left) = left + computation_of row
work_left row (Computation left) = left

-- The memory ticks among them.
abbrev pub memory_left : Row → Standing → ℕ
memory_left row Absent = 0
memory_left row Waiting = memory_of row
memory_left row (Memory left) = left
memory_left row (Computation left) = 0

-- 1 for a live job, 0 for none.
abbrev pub live_jobs : Standing → ℕ
live_jobs Absent = 0
live_jobs Waiting = 1
live_jobs (Memory left) = 1
live_jobs (Computation left) = 1

-- e for each completed job, and what the live job has done.
unfoldable pub work_done : State → ℕ → ℕ
work_done s i = length_of (row_at s i) * ((job_at s i).completed + live_jobs (standing_at s i)) - work_left (row_at s i) (standing_at s i)

-- After rule 1, a job works in the tick if it is in computation, or in memory and has the token.
abbrev pub is_working : Bool → Standing → Bool
is_working token Absent = false
is_working token Waiting = false
is_working token (Memory left) = token
is_working token (Computation left) = true

unfoldable pub works_by : (ℕ → Bool) → State → ℕ → Bool
works_by has s i = is_working (has i) (standing_at s i)

abbrev pub works : State → ℕ → Bool
works s = works_by (has_token s) s
