-- Any board whose calls do to the state that it holds what the rules say.
use mathlib.Core.Path.{◌≡◌}
use mathlib.Core.Bool.{Bool}
use mathlib.Core.List.{List}
use Prim.Native.Nat.{ℕ, ◌+◌, ◌<◌}
use Rattle.sheet.specs.Refusals.{accepts}
use Rattle.sheet.specs.declared.Set.{Set}
use Rattle.board.proofs.ShapeFacts.{Shaped}
use Rattle.runs.specs.Runs.{Call, Board, calls_on, always, ticks_on}
use Rattle.runs.proofs.Lists.{raised_by_calls, kept_by_calls}
use Rattle.runs.proofs.Calling.{CallHow, clock_how}
use Rattle.runs.proofs.OfSets.{OfSet, of_set_how}
use Rattle.runs.proofs.Rows.{RowHow}
use Rattle.runs.proofs.Rows as rows

-- `has` are the rows that have the token in a tick.
pub record ByRules (b : Board) : Type 0 where
  pub has : b.Whole → ℕ → Bool
  pub how : (s : b.Whole) (c : Call) → CallHow (has s) (b.state s) c (accepts (b.answered s c)) (b.state (b.called s c))

module _ (b : Board) (rules : ByRules b) where
  -- Every list of calls keeps the shape and the set.
  module _ (set : Set) where
    pub of_set_call : (s : b.Whole) (c : Call) → OfSet set (b.state s) → OfSet set (b.state (b.called s c))
    of_set_call s c = of_set_how (rules.how s c)

    pub of_set_calls : (s : b.Whole) (cs : List Call) → OfSet set (b.state s) → OfSet set (b.state (calls_on b s cs))
    of_set_calls = kept_by_calls b (λ (s : b.Whole). OfSet set (b.state s)) of_set_call

  -- The clock grows by exactly the accepted ticks.
  pub clock_calls : (s : b.Whole) (cs : List Call) → (b.state (calls_on b s cs)).clock ≡ (b.state s).clock + ticks_on b s cs
  clock_calls = raised_by_calls b always (λ (s : b.Whole). (b.state s).clock) (λ s c. clock_how (rules.how s c))

  -- What a call does to the job of a row below n, from a state of the shape.
  pub row_call : (s : b.Whole) → Shaped (b.state s) → (i : ℕ) → i < (b.state s).set.count → (c : Call)
      → RowHow (rules.has s) (b.state s) i c (accepts (b.answered s c)) (b.state (b.called s c))
  row_call s f i l c = rows.row_how (b.state s) f i l (rules.how s c)
