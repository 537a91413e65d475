-- What a call makes of a state: what the rules say where it is accepted, and nothing where it is refused.
use mathlib.Core.Path.{◌≡◌, refl}
use mathlib.Core.Bool.{Bool, true, false}
use Prim.Native.Nat.{ℕ, ◌+◌}
use native.Mathlib.Omega.{arith}
use Rattle.laws.specs.ChoiceLaws.{true_not_false}
use Rattle.board.specs.declared.State.{State}
use Rattle.board.specs.Rules.{taken, ran_by}
use Rattle.board.specs.Calls.{released}
use Rattle.board.proofs.Pointwise.{taken_clock, ran_clock, released_clock}
use Rattle.board.proofs.Kept.{MayRelease, MayTick}
use Rattle.runs.specs.Runs.{Call, release, tick, count_of}

-- The call, whether it is accepted, and the state that it leads to; `has` are the rows that have the token in a tick.
pub data CallHow (has : ℕ → Bool) (s : State) : Call → Bool → State → Type 0 where
  releases : {i : ℕ} → MayRelease s i → CallHow has s (release i) true (released s i)
  ticks : MayTick s → CallHow has s tick true (ran_by has (taken s))
  refused : {c : Call} → CallHow has s c false s

no_count : (c : Call) → count_of false true c ≡ 0
no_count (release i) = refl
no_count tick = refl

pub tick_clock : (has : ℕ → Bool) (s : State) → (ran_by has (taken s)).clock ≡ s.clock + 1
tick_clock has s = omega (arith, ran_clock has (taken s), taken_clock s)

module _ {has : ℕ → Bool} {s : State} where
  -- The clock counts the accepted ticks.
  pub clock_how : {c : Call} {a : Bool} {t : State} → CallHow has s c a t → t.clock ≡ s.clock + count_of a true c
  clock_how (releases {i} m) = omega (arith, released_clock s i)
  clock_how (ticks m) = tick_clock has s
  clock_how (refused {c}) = omega (arith, no_count c)

  -- What an accepted release says of the state, and makes of it.
  pub accepted_release : {i : ℕ} {a : Bool} {t : State} → CallHow has s (release i) a t → a ≡ true → MayRelease s i × (t ≡ released s i)
  accepted_release (releases m) e = (m, refl)
  accepted_release refused e = true_not_false _ e refl
