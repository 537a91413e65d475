-- Laws of the pending work and of progress.
use Prim.Native.Nat.{ℕ, ◌+◌, ◌≤◌, ◌<◌}
use mathlib.Core.Path.{◌≡◌, refl, sym, subst}
use mathlib.Core.Bool.{Bool, true}
use mathlib.Core.Logic.{◌⊎◌, inl, inr}
use native.Mathlib.Nat.{le_refl, le_of_eq}
use native.Mathlib.Omega.{arith}
use Rattle.laws.specs.RoundingLaws.{split}
use Rattle.laws.specs.SumsWhere.{sum_where}
use Rattle.laws.specs.SumsWhereLaws.{where_mono, where_at, where_strict, where_some}
use Rattle.theory.specs.System.{System, Above, Higher, above, higher, lower, sum_above}
use Rattle.theory.specs.Snapshot.{Snapshot}
use Rattle.theory.proofs.Ranks.{tests_above, is_higher, tests_higher, tests_lower, no_zero, Order, before, same, after, order}
use Rattle.theory.proofs.Done.{work_done, memory_done}
use Rattle.theory.proofs.Window.{pending, progress}

-- A live row of those that count as pending.
pub record Live (sys : System) (i : ℕ) (s : Snapshot) : Type 0 where
  pub row : ℕ
  pub below : row < sys.rows
  pub processor : sys.processor row ≡ sys.processor i
  pub not_lower : row ≤ i
  pub live : 1 ≤ s.work_left row

module _ (sys : System) (i : ℕ) (il : i < sys.rows) where
  pub pending_own : (s : Snapshot) → s.work_left i ≤ pending sys i s
  unfolding pending
  pending_own s = omega arith

  pub pending_higher : (s : Snapshot) (j : ℕ) → j < sys.rows → Higher sys i j → s.work_left j + s.work_left i ≤ pending sys i s
  unfolding pending
  pending_higher s j p h = omega (arith, where_at (higher sys i) s.work_left sys.rows j p (tests_higher sys i j h))

  pub pending_falls : (s t : Snapshot) → ((j : ℕ) → j < sys.rows → t.work_left j ≤ s.work_left j) → pending sys i t ≤ pending sys i s
  unfolding pending
  pending_falls s t h = omega (arith, where_mono (higher sys i) t.work_left s.work_left sys.rows (λ j p c. h j p), h i il)

  pub live : (s : Snapshot) → 1 ≤ pending sys i s → Live sys i s
  unfolding pending
  live s h = go (split (s.work_left i) 0)
    where
      go : (s.work_left i ≤ 0) ⊎ (0 < s.work_left i) → Live sys i s
      go (inr p) = record { row = i; below = il; processor = refl; not_lower = le_refl i; live = p }
      go (inl z) =
          let r = where_some (higher sys i) s.work_left sys.rows (omega arith) in
          let o = is_higher sys i r.0 r.2 in
          record { row = r.0; below = r.1; processor = o.0; not_lower = omega arith; live = r.3 }

  pub pending_same : (s t : Snapshot) → ((j : ℕ) → j < sys.rows → t.work_left j ≡ s.work_left j) → pending sys i t ≡ pending sys i s
  pending_same s t h = omega (arith, pending_falls s t (λ j p. le_of_eq (h j p)), pending_falls t s (λ j p. le_of_eq (sym (h j p))))

  pub pending_none : (s : Snapshot) → ((j : ℕ) → j < sys.rows → s.work_left j ≡ 0) → pending sys i s ≡ 0
  pending_none s h = go (split (pending sys i s) 0)
    where
      go : (pending sys i s ≤ 0) ⊎ (0 < pending sys i s) → pending sys i s ≡ 0
      go (inl z) = omega arith
      go (inr p) = let a = live s p in no_zero a.live (h a.row a.below)

  -- From s to t what is done of a row never falls.
  module _ (s t : Snapshot) (work : (j : ℕ) → j < sys.rows → work_done sys s j ≤ work_done sys t j)
      (memory : (j : ℕ) → j < sys.rows → memory_done sys s j ≤ memory_done sys t j) where
    above_kept : sum_above sys i (memory_done sys s) ≤ sum_above sys i (memory_done sys t)
    above_kept = where_mono (above sys i) (memory_done sys s) (memory_done sys t) sys.rows (λ j p c. memory j p)

    own_kept : (test : ℕ → Bool) → sum_where test (work_done sys s) sys.rows ≤ sum_where test (work_done sys t) sys.rows
    own_kept test = where_mono test (work_done sys s) (work_done sys t) sys.rows (λ j p c. work j p)

    own_more : (test : ℕ → Bool) (k : ℕ) → k < sys.rows → test k ≡ true → work_done sys s k + 1 ≤ work_done sys t k
        → sum_where test (work_done sys s) sys.rows + 1 ≤ sum_where test (work_done sys t) sys.rows
    own_more test = where_strict test (work_done sys s) (work_done sys t) sys.rows (λ j p c. work j p)

    pub progress_kept : progress sys i s ≤ progress sys i t
    unfolding progress
    progress_kept = omega (arith, above_kept, own_kept (higher sys i), own_kept (lower sys i), work i il)

    -- One memory tick of a higher-ranked processor is progress,
    pub progress_above : (k : ℕ) → k < sys.rows → Above sys i k → memory_done sys s k + 1 ≤ memory_done sys t k
        → progress sys i s + 1 ≤ progress sys i t
    unfolding progress
    progress_above k q h more =
        let above_more = where_strict (above sys i) (memory_done sys s) (memory_done sys t) sys.rows (λ j p c. memory j p) k q (tests_above sys i k h) more in
        omega (arith, own_kept (higher sys i), own_kept (lower sys i), work i il)

    -- and so is one tick of any row of row i's processor.
    pub progress_own : (k : ℕ) → k < sys.rows → sys.processor k ≡ sys.processor i → work_done sys s k + 1 ≤ work_done sys t k
        → progress sys i s + 1 ≤ progress sys i t
    unfolding progress
    progress_own k q e more = go (order k i)
      where
        go : Order k i → progress sys i s + 1 ≤ progress sys i t
        go (before l) = omega (arith, above_kept, own_more (higher sys i) k q (tests_higher sys i k (e, l)) more, own_kept (lower sys i), work i il)
        go (same l) =
            let this = subst (λ z. work_done sys s z + 1 ≤ work_done sys t z) l more in
            omega (arith, above_kept, own_kept (higher sys i), own_kept (lower sys i))
        go (after l) = omega (arith, above_kept, own_kept (higher sys i), own_more (lower sys i) k q (tests_lower sys i k (e, l)) more, work i il)
