-- The calls: start, release and tick. The first refusal that applies is given; a refusal hands the state back unchanged.
use Rattle.std.specs.Prelude.{ℕ, ◌+◌, Bool, true, not, ◌&&◌, List, [], ◌∷◌, ltb, leb, eqb, Option, None, Result, Ok, Err}
use Rattle.laws.specs.Choice.{pick, Line, ◌gives◌, first_of}
use Rattle.laws.specs.Tabulate.{tab}
use Rattle.sheet.specs.Refusals.{accepts, carried, STATE, ROW, EARLY, LIVE, CLOCK, refused, accepted, answered}
use Rattle.sheet.specs.Ranges.{most_rows}
use Rattle.sheet.specs.Reading.{read_sheet}
use Rattle.sheet.specs.declared.Refusal.{Refusal}
use Rattle.sheet.specs.declared.Reading.{Reading}
use Rattle.board.specs.declared.Job.{Job}
use Rattle.board.specs.declared.State.{State}
use Rattle.board.specs.declared.Started.{Started}
use Rattle.board.specs.declared.Released.{Released}
use Rattle.board.specs.declared.Beat.{Beat}
use Rattle.board.specs.declared.Ticked.{Ticked}
use Rattle.board.specs.declared.Standing.TheVariants.{Waiting}
use Rattle.board.specs.States.{most_clock, row_at, job_at, is_absent, start_set, zero_state}
use Rattle.board.specs.Shape.{shape_ok}
use Rattle.board.specs.Rules.{taken, token_at, token_named, ran, completed_rows}

-- Start: reading. A refused start hands back the all-zero state.
unfoldable pub start_reading : Reading → Started
start_reading r = record { state = pick (accepts (carried r.refusal)) (start_set r.set) zero_state; refusal = r.refusal }

unfoldable pub start_of : List ℕ → Started
start_of sheet = start_reading (read_sheet sheet)

-- The row has been released before, less than T ticks ago.
abbrev pub is_early : (clock period : ℕ) → Job → Bool
is_early clock period job = job.ever && ltb clock (job.last + period)

-- What is wrong with a release of the row at that clock: 15, 16.
abbrev pub release_table : (clock period : ℕ) → Job → List Line
release_table clock period job = is_early clock period job gives EARLY ∷ not (is_absent job.standing) gives LIVE ∷ []

-- Release: 13, 14, 15, 16.
unfoldable pub release_number : State → ℕ → ℕ
release_number s i =
    first_of
    (not (shape_ok s) gives STATE
    ∷ leb s.set.count i gives ROW
    ∷ release_table s.clock (row_at s i).period (job_at s i))

-- A release makes the job waiting.
abbrev pub waiting_from : ℕ → Job → Job
waiting_from clock job = record { ever = true; last = clock; standing = Waiting; worst = job.worst; completed = job.completed }

unfoldable pub released : State → ℕ → State
released s i =
    record {
      set = s.set;
      clock = s.clock;
      hands = s.hands;
      jobs = tab most_rows (λ k. pick (eqb k i) (waiting_from s.clock (job_at s i)) (job_at s k));
    }

unfoldable pub release_of : State → ℕ → Released
release_of s i =
    record { state = pick (eqb (release_number s i) 0) (released s i) s; answer = answered (refused (release_number s i) 0) }

-- Tick: 13, 17.
abbrev pub tick_table : (fits : Bool) (clock : ℕ) → List Line
tick_table fits clock = not fits gives STATE ∷ eqb clock most_clock gives CLOCK ∷ []

unfoldable pub tick_number : State → ℕ
tick_number s = first_of (tick_table (shape_ok s) s.clock)

-- The answer names the token's processor or none, and the completed rows.
abbrev pub beat_of : State → Beat
beat_of s = record { token = token_named (token_at (taken s)); completed = completed_rows (taken s) }

unfoldable pub ticked : State → Ticked
ticked s = record { state = ran (taken s); answer = Ok (beat_of s) }

abbrev pub unticked : State → ℕ → Ticked
unticked s number = record { state = s; answer = Err (refused number 0) }

unfoldable pub tick_of : State → Ticked
tick_of s = pick (eqb (tick_number s) 0) (ticked s) (unticked s (tick_number s))

-- What a tick's answer says: the refusal, the token's processor or none, and the completed rows.
pub record Said : Type 0 where
  pub refusal : Refusal
  pub token : Option ℕ
  pub completed : ℕ

abbrev pub said : Result Beat Refusal → Said
said (Ok beat) = record { refusal = accepted; token = beat.token; completed = beat.completed }
said (Err refusal) = record { refusal = refusal; token = None; completed = 0 }

-- A refused tick names none of either.
abbrev pub refused_beat : ℕ → Said
refused_beat number = said (Err (refused number 0))
