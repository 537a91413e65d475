-- Laws of lists of calls, on any board.
use mathlib.Core.Path.{◌≡◌, refl}
use mathlib.Core.Bool.{Bool, true, false}
use mathlib.Core.List.{List, [], ◌∷◌, ◌++◌}
use Prim.Native.Nat.{ℕ, ◌+◌, ◌≤◌}
use native.Mathlib.Omega.{arith}
use Rattle.laws.specs.WordLaws.{bit_le}
use Rattle.sheet.specs.Refusals.{accepts}
use Rattle.runs.specs.Runs.{Call, release, tick, Board, calls_on, count_of, counted_on, ticks_on}

-- A call counts at most 1, where it is an accepted tick.
count_most : (accepted holds : Bool) (c : Call) → count_of accepted holds c ≤ count_of accepted true c
count_most accepted holds (release i) = omega arith
count_most true holds tick = bit_le holds
count_most false holds tick = omega arith

module _ (b : Board) where
  -- One list after the other.
  pub calls_append : (s : b.Whole) (xs ys : List Call) → calls_on b s (xs ++ ys) ≡ calls_on b (calls_on b s xs) ys
  unfolding calls_on
  calls_append s [] ys = refl
  calls_append s (c ∷ xs) ys = calls_append (b.called s c) xs ys

  module _ (test : b.Whole → Bool) where
    pub counted_append : (s : b.Whole) (xs ys : List Call) → counted_on b test s (xs ++ ys) ≡ counted_on b test s xs + counted_on b test (calls_on b s xs) ys
    unfolding counted_on calls_on
    counted_append s [] ys = omega arith
    counted_append s (c ∷ xs) ys = omega (arith, counted_append (b.called s c) xs ys)

    -- A count is at most the accepted ticks.
    pub counted_most : (s : b.Whole) (cs : List Call) → counted_on b test s cs ≤ ticks_on b s cs
    unfolding counted_on
    counted_most s [] = omega arith
    counted_most s (c ∷ more) = omega (arith, count_most (accepts (b.answered s c)) (test s) c, counted_most (b.called s c) more)

    -- A number that each call raises by its count, lists of calls raise by theirs.
    module _ (number : b.Whole → ℕ) (raised : (s : b.Whole) (c : Call) → number (b.called s c) ≡ number s + count_of (accepts (b.answered s c)) (test s) c) where
      pub raised_by_calls : (s : b.Whole) (cs : List Call) → number (calls_on b s cs) ≡ number s + counted_on b test s cs
      unfolding calls_on counted_on
      raised_by_calls s [] = omega arith
      raised_by_calls s (c ∷ more) = omega (arith, raised s c, raised_by_calls (b.called s c) more)

  -- What each call keeps, lists of calls keep.
  module _ (P : b.Whole → Type 0) (kept : (s : b.Whole) (c : Call) → P s → P (b.called s c)) where
    pub kept_by_calls : (s : b.Whole) (cs : List Call) → P s → P (calls_on b s cs)
    unfolding calls_on
    kept_by_calls s [] p = p
    kept_by_calls s (c ∷ more) p = kept_by_calls (b.called s c) more (kept s c p)
