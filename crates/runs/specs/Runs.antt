-- Lists of calls on a board, in any order, accepted or refused.
use Rattle.std.specs.Prelude.{ℕ, ◌+◌, Bool, true, ◌&&◌, List, [], ◌∷◌}
use Rattle.laws.specs.Words.{bit}
use Rattle.sheet.specs.Refusals.{accepts, carried}
use Rattle.sheet.specs.declared.Refusal.{Refusal}
use Rattle.board.specs.declared.State.{State}
use Rattle.board.specs.Calls.{release_of, tick_of, said}

pub data Call : Type 0 where
  release : ℕ → Call
  tick : Call

-- Any board, as its caller sees it. The whole that it keeps holds a state of the first board; a call hands back a whole, and
-- answers with a refusal.
pub record Board : Type 1 where
  pub Whole : Type 0
  pub state : Whole → State
  pub called : Whole → Call → Whole
  pub answered : Whole → Call → Refusal

-- Calls one after the other.
unfoldable pub calls_on : (b : Board) → b.Whole → List Call → b.Whole
calls_on b s [] = s
calls_on b s (c ∷ more) = calls_on b (b.called s c) more

-- How many of the accepted ticks among the calls are made where a test holds: of one call, and of a list.
abbrev pub count_of : (accepted holds : Bool) → Call → ℕ
count_of accepted holds (release i) = 0
count_of accepted holds tick = bit (accepted && holds)

unfoldable pub counted_on : (b : Board) → (b.Whole → Bool) → b.Whole → List Call → ℕ
counted_on b test s [] = 0
counted_on b test s (c ∷ more) = count_of (accepts (b.answered s c)) (test s) c + counted_on b test (b.called s c) more

-- How many accepted ticks there are: the test always holds.
abbrev pub always : {A : Type 0} → A → Bool
always s = true

abbrev pub ticks_on : (b : Board) → b.Whole → List Call → ℕ
ticks_on b = counted_on b always

-- The first board keeps a state and nothing else.
abbrev pub called : State → Call → State
called s (release i) = (release_of s i).state
called s tick = (tick_of s).state

abbrev pub answered : State → Call → Refusal
answered s (release i) = carried (release_of s i).answer
answered s tick = (said (tick_of s).answer).refusal

abbrev pub first_board : Board
first_board = record { Whole = State; state = λ (s : State). s; called = called; answered = answered }

abbrev pub calls : State → List Call → State
calls = calls_on first_board

abbrev pub counted : (State → Bool) → State → List Call → ℕ
counted = counted_on first_board

abbrev pub ticks_in : State → List Call → ℕ
ticks_in = ticks_on first_board
