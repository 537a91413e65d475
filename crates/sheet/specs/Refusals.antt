-- The numbers of refusal, and what an answer carries: a number, a row and an instance.
use Rattle.std.specs.Prelude.{ℕ, ◌<◌, ◌≡◌, ◌⊎◌, Bool, eqb, ⊤, Result, Ok, Err}
use Rattle.laws.specs.Choice.{pick}
use Rattle.sheet.specs.declared.Refusal.{Refusal}
use Rattle.sheet.specs.declared.reasons.Reason.{Reason}
use Rattle.sheet.specs.declared.reasons.Reason.TheVariants.{Cut, Version, Length, Count, Record, Processor, Period, Deadline, Phases, Busy, Late, Room, State, Row, Early, Live, Clock}

abbrev pub CUT : ℕ
CUT = 1

abbrev pub VERSION : ℕ
VERSION = 2

abbrev pub LENGTH : ℕ
LENGTH = 3

abbrev pub COUNT : ℕ
COUNT = 4

abbrev pub RECORD : ℕ
RECORD = 5

abbrev pub PROCESSOR : ℕ
PROCESSOR = 6

abbrev pub PERIOD : ℕ
PERIOD = 7

abbrev pub DEADLINE : ℕ
DEADLINE = 8

abbrev pub PHASES : ℕ
PHASES = 9

abbrev pub BUSY : ℕ
BUSY = 10

abbrev pub LATE : ℕ
LATE = 11

abbrev pub ROOM : ℕ
ROOM = 12

abbrev pub STATE : ℕ
STATE = 13

abbrev pub ROW : ℕ
ROW = 14

abbrev pub EARLY : ℕ
EARLY = 15

abbrev pub LIVE : ℕ
LIVE = 16

abbrev pub CLOCK : ℕ
CLOCK = 17

-- The number of each reason.
abbrev pub number_of : Reason → ℕ
number_of Cut = CUT
number_of Version = VERSION
number_of Length = LENGTH
number_of Count = COUNT
number_of Record = RECORD
number_of Processor = PROCESSOR
number_of Period = PERIOD
number_of Deadline = DEADLINE
number_of Phases = PHASES
number_of Busy = BUSY
number_of Late = LATE
number_of Room = ROOM
number_of State = STATE
number_of Row = ROW
number_of Early = EARLY
number_of Live = LIVE
number_of Clock = CLOCK

-- The number that a test comes to: 0 where nothing is wrong.
abbrev pub fault_number : Result ⊤ Reason → ℕ
fault_number (Ok nothing) = 0
fault_number (Err reason) = number_of reason

-- A refusal with its row; its instance is 0, as it is for every number but LATE.
abbrev pub refused : ℕ → ℕ → Refusal
refused number row = record { number = number; row = row; instance = 0 }

-- An accepted call carries 0 in all three.
abbrev pub accepted : Refusal
accepted = refused 0 0

abbrev pub accepts : Refusal → Bool
accepts r = eqb r.number 0

-- What an answer carries: the refusal, or 0 in all three.
abbrev pub carried : Result ⊤ Refusal → Refusal
carried (Ok nothing) = accepted
carried (Err refusal) = refusal

-- The answer that carries this.
abbrev pub answered : Refusal → Result ⊤ Refusal
answered r = pick (accepts r) (Ok tt) (Err r)

-- The first of two that applies.
abbrev pub or_else : Refusal → Refusal → Refusal
or_else a b = pick (accepts a) b a

-- A refusal carries a row for 5 to 11, otherwise 0, and an instance for 11, otherwise 0.
pub record Carries (r : Refusal) : Type 0 where
  pub no_row : (r.number < RECORD) ⊎ (LATE < r.number) → r.row ≡ 0
  pub no_instance : (r.number ≡ LATE → ⊥) → r.instance ≡ 0
