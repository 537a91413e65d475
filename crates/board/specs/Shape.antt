-- The shape of a state, clause by clause.
use Rattle.std.specs.Prelude.{ℕ, Bool, true, not, ◌&&◌, ◌||◌, ltb, leb, eqb, Option, Some, None}
use Rattle.laws.specs.Choice.{pick}
use Rattle.laws.specs.Search.{all}
use Rattle.sheet.specs.Refusals.{accepts}
use Rattle.sheet.specs.Ranges.{most_processors, most_rows, set_refusal, memory_of, computation_of}
use Rattle.sheet.specs.declared.Row.{Row}
use Rattle.sheet.specs.declared.Set.{Set}
use Rattle.board.specs.declared.Job.{Job}
use Rattle.board.specs.declared.State.{State}
use Rattle.board.specs.declared.Standing.{Standing}
use Rattle.board.specs.declared.Standing.TheVariants.{Absent, Waiting, Memory, Computation}
use Rattle.board.specs.States.{most_clock, row_at, job_at, hand_at, processor_at, is_absent, in_hand}

-- The set passes 4 and 6 to 9.
unfoldable pub set_passes : Set → Bool
set_passes set = accepts (set_refusal set)

-- A row past n is zero,
unfoldable pub row_is_zero : Row → Bool
row_is_zero r = eqb r.processor 0 && eqb r.memory 0 && eqb r.computation 0 && eqb r.period 0 && eqb r.deadline 0

-- as is all kept for it.
unfoldable pub absent_with_zeros : Job → Bool
absent_with_zeros job = is_absent job.standing && eqb job.last 0 && eqb job.worst 0 && eqb job.completed 0

unfoldable pub job_is_zero : Job → Bool
job_is_zero job = not job.ever && absent_with_zeros job

-- Releases, worst responses and completed numbers are at most the clock.
unfoldable pub at_most_clock : ℕ → Job → Bool
at_most_clock clock job = leb job.last clock && leb job.worst clock && leb job.completed clock

-- A row never released is absent with zeros.
unfoldable pub ever_or_zero : Job → Bool
ever_or_zero job = job.ever || absent_with_zeros job

-- A job is in memory or computation exactly if it is in hand, with at least 1 tick left and at most m or c of the row.
unfoldable pub standing_fits : Row → Bool → Standing → Bool
standing_fits row held Absent = not held
standing_fits row held Waiting = not held
standing_fits row held (Memory left) = held && leb 1 left && leb left (memory_of row)
standing_fits row held (Computation left) = held && leb 1 left && leb left (computation_of row)

unfoldable pub job_fits : ℕ → Row → Bool → Job → Bool
job_fits clock row held job = at_most_clock clock job && ever_or_zero job && standing_fits row held job.standing

-- Row i, and what is kept for it.
unfoldable pub row_fits : State → ℕ → Bool
row_fits s i =
    pick (ltb i s.set.count) (job_fits s.clock (row_at s i) (in_hand s i) (job_at s i)) (row_is_zero (row_at s i) && job_is_zero (job_at s i))

-- A processor p holds none or one of its own rows below n; processors from N on hold none.
abbrev pub own_row : (i on p n N : ℕ) → Bool
own_row i on p n N = ltb i n && eqb on p && ltb p N

unfoldable pub hand_fits : State → ℕ → Option ℕ → Bool
hand_fits s p None = true
hand_fits s p (Some i) = own_row i (processor_at s i) p s.set.count s.set.processors

unfoldable pub shape_ok : State → Bool
shape_ok s =
    set_passes s.set && leb s.clock most_clock && all most_rows (row_fits s) && all most_processors (λ p. hand_fits s p (hand_at s p))
