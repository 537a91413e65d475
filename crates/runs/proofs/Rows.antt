-- What a call does to the job of a row: it is released anew, it goes through a tick, or it is as it was.
use mathlib.Core.Path.{◌≡◌, refl, sym, subst}
use mathlib.Core.Bool.{Bool, true, false, ◌&&◌}
use Prim.Native.Nat.{ℕ, ◌+◌, ◌<◌}
use native.Mathlib.Decide.{ℕ_discrete}
use lib.Dec.{eqb}
use borrow.Author.Tests.{ne_eqb}
use Rattle.laws.specs.ChoiceLaws.{true_not_false}
use Rattle.board.specs.declared.State.{State}
use Rattle.board.specs.States.{job_at}
use Rattle.board.specs.Rules.{taken, ran_by}
use Rattle.board.specs.Calls.{waiting_from, released}
use Rattle.board.proofs.ShapeFacts.{Shaped, below_most}
use Rattle.board.proofs.Pointwise.{released_job, released_other, released_clock}
use Rattle.board.proofs.Kept.{MayRelease, MayTick}
use Rattle.board.proofs.Jobs.{Ticks, tick_row}
use Rattle.runs.specs.Runs.{Call, release, tick, count_of}
use Rattle.runs.proofs.Calling.{CallHow, releases, ticks, refused, tick_clock}

pub record Anew (s : State) (i : ℕ) : Type 0 where
  pub may : MayRelease s i
  pub job : job_at (released s i) i ≡ waiting_from s.clock (job_at s i)
  pub clock : (released s i).clock ≡ s.clock

pub record Ticked (has : ℕ → Bool) (s : State) (i : ℕ) : Type 0 where
  pub may : MayTick s
  pub job : Ticks s.clock (job_at s i) (job_at (ran_by has (taken s)) i)
  pub clock : (ran_by has (taken s)).clock ≡ s.clock + 1

-- A tick concerns every row, a release its own.
abbrev pub concerns : ℕ → Call → Bool
concerns i (release k) = eqb k i
concerns i tick = true

pub record AsWas (s t : State) (i : ℕ) (accepted : Bool) (c : Call) : Type 0 where
  pub no_concern : accepted && concerns i c ≡ false
  pub job : job_at t i ≡ job_at s i
  pub clock : t.clock ≡ s.clock

-- From s to t by the call c, accepted or not.
pub data RowHow (has : ℕ → Bool) (s : State) (i : ℕ) : Call → Bool → State → Type 0 where
  anew : Anew s i → RowHow has s i (release i) true (released s i)
  ticked : Ticked has s i → RowHow has s i tick true (ran_by has (taken s))
  as_was : {c : Call} {a : Bool} {t : State} → AsWas s t i a c → RowHow has s i c a t

-- A call that leaves a row's job as it was counts nothing.
pub as_was_counts : {s t : State} {i : ℕ} {a : Bool} {c : Call} → AsWas s t i a c → (holds : Bool) → count_of a holds c ≡ 0
as_was_counts {c = release k} x holds = refl
as_was_counts {a = true} {c = tick} x holds = true_not_false _ refl x.no_concern
as_was_counts {a = false} {c = tick} x holds = refl

module _ {has : ℕ → Bool} (s : State) (f : Shaped s) (i : ℕ) (l : i < s.set.count) where
  own : MayRelease s i → RowHow has s i (release i) true (released s i)
  own m = anew (record { may = m; job = released_job s i (below_most s f i l); clock = released_clock s i })

  of_row : (k : ℕ) → MayRelease s k → Dec (k ≡ i) → RowHow has s i (release k) true (released s k)
  of_row k m (yes d) = subst (λ (x : ℕ). MayRelease s x → RowHow has s i (release x) true (released s x)) (sym d) own m
  of_row k m (no d) =
      as_was (record { no_concern = ne_eqb k i d; job = released_other s k i (below_most s f i l) (λ e. d (sym e)); clock = released_clock s k })

  pub row_how : {c : Call} {a : Bool} {t : State} → CallHow has s c a t → RowHow has s i c a t
  row_how (releases {i = k} m) = of_row k m (ℕ_discrete k i)
  row_how (ticks m) = ticked (record { may = m; job = tick_row has s f i l; clock = tick_clock has s })
  row_how refused = as_was (record { no_concern = refl; job = refl; clock = refl })
