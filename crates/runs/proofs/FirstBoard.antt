-- The first board's calls do what the rules say.
use mathlib.Core.Path.{◌≡◌, refl, sym, subst}
use mathlib.Core.Bool.{Bool, true, false}
use mathlib.Core.List.{List}
use Prim.Native.Nat.{ℕ, ◌+◌, ◌<◌}
use lib.Dec.{eqb}
use borrow.Author.Tests.{eqb-true}
use Rattle.laws.specs.Choice.{pick}
use Rattle.std.specs.Prelude.{Ok, Err}
use Rattle.sheet.specs.Refusals.{accepts, carried}
use Rattle.sheet.specs.Refusals as sheet
use Rattle.sheet.specs.declared.Refusal.{Refusal}
use Rattle.sheet.specs.Ranges.{WellFormed}
use Rattle.sheet.specs.declared.Set.{Set}
use Rattle.board.specs.declared.State.{State}
use Rattle.board.specs.declared.Ticked.{Ticked}
use Rattle.board.specs.States.{start_set}
use Rattle.board.specs.Rules.{taken, has_token}
use Rattle.board.specs.Calls.{release_number, released, release_of, tick_number, ticked, unticked, tick_of, said}
use Rattle.board.proofs.ShapeFacts.{Shaped}
use Rattle.board.proofs.Pointwise.{start_set_lem}
use Rattle.board.proofs.Kept.{may_release, may_tick, start_keeps}
use Rattle.runs.specs.Runs.{Call, release, tick, called, answered, first_board, calls, ticks_in}
use Rattle.runs.proofs.Calling.{CallHow, releases, ticks, refused}
use Rattle.runs.proofs.OfSets.{OfSet}
use Rattle.runs.proofs.Rows.{RowHow}
use Rattle.runs.proofs.Boards.{ByRules}
use Rattle.runs.proofs.Boards as boards

module _ (s : State) where
  abbrev How : Call → Bool → State → Type 0
  How = CallHow (has_token (taken s)) s

  release_how : (i : ℕ) → How (release i) (accepts (carried (release_of s i).answer)) (release_of s i).state
  unfolding release_of
  release_how i = go (eqb (release_number s i) 0) refl
    where
      answer : Bool → Refusal
      answer a = carried (pick a (Ok (tt {0})) (Err (sheet.refused (release_number s i) 0)))

      go : (a : Bool) → eqb (release_number s i) 0 ≡ a → How (release i) (accepts (answer a)) (pick a (released s i) s)
      go true e = releases (may_release s i (eqb-true _ _ e))
      go false e = subst (λ (x : Bool). How (release i) x s) (sym e) refused

  tick_how : How tick (accepts (said (tick_of s).answer).refusal) (tick_of s).state
  unfolding tick_of ticked
  tick_how = go (eqb (tick_number s) 0) refl
    where
      beat : Bool → Ticked
      beat a = pick a (ticked s) (unticked s (tick_number s))

      go : (a : Bool) → eqb (tick_number s) 0 ≡ a → How tick (accepts (said (beat a).answer).refusal) (beat a).state
      go true e = ticks (may_tick s (eqb-true _ _ e))
      go false e = subst (λ (x : Bool). How tick x s) (sym e) refused

  pub call_how : (c : Call) → How c (accepts (answered s c)) (called s c)
  call_how (release i) = release_how i
  call_how tick = tick_how

abbrev pub first_rules : ByRules first_board
first_rules = record { has = λ (s : State). has_token (taken s); how = call_how }

-- So its calls keep the shape and the set, and the clock grows by exactly the accepted ticks.
pub of_set_call : (set : Set) (s : State) (c : Call) → OfSet set s → OfSet set (called s c)
of_set_call = boards.of_set_call first_board first_rules

pub of_set_calls : (set : Set) (s : State) (cs : List Call) → OfSet set s → OfSet set (calls s cs)
of_set_calls = boards.of_set_calls first_board first_rules

pub of_set_start : (set : Set) → WellFormed set → OfSet set (start_set set)
of_set_start set w = record { shape = start_keeps set w; over = start_set_lem set }

pub of_set : (set : Set) → WellFormed set → (cs : List Call) → OfSet set (calls (start_set set) cs)
of_set set w cs = of_set_calls set (start_set set) cs (of_set_start set w)

pub clock_calls : (s : State) (cs : List Call) → (calls s cs).clock ≡ s.clock + ticks_in s cs
clock_calls = boards.clock_calls first_board first_rules

-- What a call does to the job of a row below n, from a state of the shape.
pub row_call : (s : State) → Shaped s → (i : ℕ) → i < s.set.count → (c : Call) → RowHow (has_token (taken s)) s i c (accepts (answered s c)) (called s c)
row_call = boards.row_call first_board first_rules
