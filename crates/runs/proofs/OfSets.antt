-- A state of the shape over a set. Every call keeps both.
use mathlib.Core.Path.{◌≡◌, sym, subst, ◌∙◌}
use mathlib.Core.Bool.{Bool}
use Prim.Native.Nat.{ℕ, ◌<◌}
use native.Mathlib.Omega.{arith}
use Rattle.sheet.specs.declared.Set.{Set}
use Rattle.board.specs.declared.State.{State}
use Rattle.board.specs.Rules.{taken}
use Rattle.board.proofs.ShapeFacts.{Shaped}
use Rattle.board.proofs.Pointwise.{taken_set, taken_clock, ran_set, released_set}
use Rattle.board.proofs.Taking.{take_keeps}
use Rattle.board.proofs.Running.{run_keeps}
use Rattle.board.proofs.Kept.{release_keeps}
use Rattle.runs.specs.Runs.{Call}
use Rattle.runs.proofs.Calling.{CallHow, releases, ticks, refused}

pub record OfSet (set : Set) (s : State) : Type 0 where
  pub shape : Shaped s
  pub over : s.set ≡ set

pub of_set_how : {set : Set} {has : ℕ → Bool} {s : State} {c : Call} {a : Bool} {t : State} → CallHow has s c a t → OfSet set s → OfSet set t
of_set_how {s = s} (releases {i} m) o = record { shape = release_keeps s i m; over = released_set s i ∙ o.over }
of_set_how {has = has} {s = s} (ticks m) o =
    record {
      shape = run_keeps has (taken s) (take_keeps s m.shape) (omega (arith, m.early, taken_clock s));
      over = ran_set has (taken s) ∙ taken_set s ∙ o.over;
    }
of_set_how refused o = o

-- A row of the set is a row of the state, and the other way round.
pub row_of_state : {set : Set} {s : State} → OfSet set s → (i : ℕ) → i < set.count → i < s.set.count
row_of_state o i l = subst (λ (x : Set). i < x.count) (sym o.over) l

pub row_of_set : {set : Set} {s : State} → OfSet set s → (i : ℕ) → i < s.set.count → i < set.count
row_of_set o i l = subst (λ (x : Set). i < x.count) o.over l
