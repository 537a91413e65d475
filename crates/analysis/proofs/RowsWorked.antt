-- The rows worked one after the other, case by case.
use Prim.Native.Nat.{ℕ, zero, suc, ◌+◌, ◌-◌, ◌≤◌}
use mathlib.Core.Path.{◌≡◌, ap, ◌∙◌}
use mathlib.Core.List.{List, [], ◌∷◌, ◌++◌}
use native.Mathlib.Omega.{arith}
use native.Mathlib.Nat.{add-zero, add-suc}
use Rattle.sheet.specs.declared.Set.{Set}
use Rattle.sheet.specs.Ranges.{row_in}
use Rattle.std.specs.Prelude.{Ok, Err}
use Rattle.analysis.specs.declared.Fault.TheVariants.{Busy, Late}
use Rattle.analysis.specs.Equations.{verdict_of}
use Rattle.analysis.specs.Bounds.{equations_of, bound_in, Accepted, BusyAt, LateAt, row_after, worked, analyse_set}

module _ (set : Set) where
  -- row i after the rows before it have the bounds bs
  module _ (i : ℕ) (bs : List ℕ) (before : worked set i ≡ Accepted bs) where
    pub worked_bound : (r : ℕ) → verdict_of (equations_of set (bound_in bs) i) (row_in set i).deadline ≡ Ok r → worked set (suc i) ≡ Accepted (bs ++ (r ∷ []))
    unfolding worked row_after
    worked_bound r e = rw (before, worked) (rw (e, row_after))

    pub worked_busy : verdict_of (equations_of set (bound_in bs) i) (row_in set i).deadline ≡ Err Busy → worked set (suc i) ≡ BusyAt i
    unfolding worked row_after
    worked_busy e = rw (before, worked) (rw (e, row_after))

    pub worked_late : (q : ℕ) → verdict_of (equations_of set (bound_in bs) i) (row_in set i).deadline ≡ Err (Late q) → worked set (suc i) ≡ LateAt i q
    unfolding worked row_after
    worked_late q e = rw (before, worked) (rw (e, row_after))

  -- a refusal stays
  pub worked_refused_busy : (i j : ℕ) → worked set i ≡ BusyAt j → worked set (suc i) ≡ BusyAt j
  unfolding worked
  worked_refused_busy i j e = rw (e, worked)

  pub worked_refused_late : (i j q : ℕ) → worked set i ≡ LateAt j q → worked set (suc i) ≡ LateAt j q
  unfolding worked
  worked_refused_late i j q e = rw (e, worked)

  stays_busy : (i d j : ℕ) → worked set i ≡ BusyAt j → worked set (i + d) ≡ BusyAt j
  unfolding worked
  stays_busy i zero j e = rw add-zero e
  stays_busy i (suc d) j e = rw (add-suc, stays_busy i d j e, worked)

  stays_late : (i d j q : ℕ) → worked set i ≡ LateAt j q → worked set (i + d) ≡ LateAt j q
  unfolding worked
  stays_late i zero j q e = rw add-zero e
  stays_late i (suc d) j q e = rw (add-suc, stays_late i d j q e, worked)

  pub busy_ends : (i j : ℕ) → i ≤ set.count → worked set i ≡ BusyAt j → analyse_set set ≡ BusyAt j
  unfolding analyse_set
  busy_ends i j h e = let k : set.count ≡ i + (set.count - i) = omega arith in ap (worked set) k ∙ stays_busy i (set.count - i) j e

  pub late_ends : (i j q : ℕ) → i ≤ set.count → worked set i ≡ LateAt j q → analyse_set set ≡ LateAt j q
  unfolding analyse_set
  late_ends i j q h e = let k : set.count ≡ i + (set.count - i) = omega arith in ap (worked set) k ∙ stays_late i (set.count - i) j q e
