-- What a state holds: the set, the clock, the row in hand on each processor or none, and for each row what is kept for it.
use Rattle.std.specs.Prelude.{ℕ, Bool, true, false, get_or, replicate, eqb, Option, Some, None}
use Rattle.sheet.specs.Ranges.{most_processors, most_rows, zero_set, row_in}
use Rattle.sheet.specs.declared.Row.{Row}
use Rattle.sheet.specs.declared.Set.{Set}
use Rattle.board.specs.declared.Job.{Job}
use Rattle.board.specs.declared.State.{State}
use Rattle.board.specs.declared.Standing.{Standing}
use Rattle.board.specs.declared.Standing.TheVariants.{Absent, Waiting, Memory, Computation}

-- The clock's limit.
abbrev pub most_clock : ℕ
most_clock = 1000000000

-- Never released, and absent.
abbrev pub no_job : Job
no_job = record { ever = false; last = 0; standing = Absent; worst = 0; completed = 0 }

-- The row i of a state, the job kept for it, and the hand of processor p.
abbrev pub row_at : State → ℕ → Row
row_at s i = row_in s.set i

abbrev pub job_at : State → ℕ → Job
job_at s i = get_or s.jobs i no_job

abbrev pub hand_at : State → ℕ → Option ℕ
hand_at s p = get_or s.hands p None

abbrev pub processor_at : State → ℕ → ℕ
processor_at s i = (row_at s i).processor

abbrev pub standing_at : State → ℕ → Standing
standing_at s i = (job_at s i).standing

-- The four standings, told apart.
abbrev pub is_absent : Standing → Bool
is_absent Absent = true
is_absent Waiting = false
is_absent (Memory left) = false
is_absent (Computation left) = false

abbrev pub is_waiting : Standing → Bool
is_waiting Absent = false
is_waiting Waiting = true
is_waiting (Memory left) = false
is_waiting (Computation left) = false

abbrev pub is_memory : Standing → Bool
is_memory Absent = false
is_memory Waiting = false
is_memory (Memory left) = true
is_memory (Computation left) = false

-- A hand holds row i.
abbrev pub holds : Option ℕ → ℕ → Bool
holds None i = false
holds (Some k) i = eqb k i

-- Row i is in hand on its processor.
abbrev pub in_hand : State → ℕ → Bool
in_hand s i = holds (hand_at s (processor_at s i)) i

-- A fresh start over a set: clock 0, nothing released.
unfoldable pub start_set : Set → State
start_set set = record { set = set; clock = 0; hands = replicate most_processors None; jobs = replicate most_rows no_job }

-- All zero: every number 0, no row in hand, nothing ever released and every job absent.
unfoldable pub zero_state : State
zero_state = record { set = zero_set; clock = 0; hands = replicate most_processors None; jobs = replicate most_rows no_job }
