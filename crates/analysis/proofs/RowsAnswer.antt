-- What the loop over the rows answers, at each of its ends.
use Prim.Native.Nat.{ℕ, suc, ◌≤◌, ◌<◌}
use mathlib.Core.Path.{◌≡◌, sym, ap, subst, ◌∙◌}
use mathlib.Core.List.{List, [], ◌∷◌, ◌++◌}
use native.Mathlib.Omega.{arith}
use lib.ListN.{get_or, take}
use Rattle.std.specs.Prelude.{Ok, Err}
use Rattle.sheet.specs.declared.Set.{Set}
use Rattle.sheet.specs.declared.Refusal.{Refusal}
use Rattle.sheet.specs.Ranges.{row_in, WellFormed}
use Rattle.analysis.specs.declared.Fault.{Fault}
use Rattle.analysis.specs.declared.Fault.TheVariants.{Busy, Late}
use Rattle.analysis.specs.declared.entries.Entry.{Entry}
use Rattle.analysis.specs.Equations.{verdict_of}
use Rattle.analysis.specs.Bounds.{blocking, equations_of, bound_in, Accepted, BusyAt, LateAt, fault_at, worked, analyse_set}
use Rattle.analysis.specs.Analysis.{refusal_of}
use Rattle.analysis.specs.Entries.{Fit, Bounded}
use Rattle.analysis.specs.Parts.{Blocks, Accepts, Refuses}
use Rattle.analysis.proofs.VerdictLaws.{bound_range}
use Rattle.analysis.proofs.RowLaws.{equations_lawful}
use Rattle.analysis.proofs.BlockingLaws.{blocking_most}
use Rattle.analysis.proofs.RowsWorked.{worked_bound, worked_busy, worked_late, busy_ends, late_ends}
use Rattle.analysis.proofs.RowsHeld.{Rows}

module _ (set : Set) (wf : WellFormed set) where
  fit : (i b : ℕ) → i < set.count → b ≤ blocking set i → Fit (row_in set i) b
  fit i b l h =
      let r = wf.row i l in
      record {
        period_some = r.period_some;
        period_most = r.period_most;
        deadline_most = r.deadline_most;
        memory_most = r.memory_most;
        computation_most = r.computation_most;
        length_some = r.length_some;
        blocked_most = omega (arith, h, blocking_most set wf i);
      }

  pub row_fit : (blocked : List ℕ) → Blocks set blocked → (i : ℕ) → i < set.count → Fit (row_in set i) (get_or blocked i 0)
  row_fit blocked b i l = fit i (get_or blocked i 0) l (omega (arith, b.block i l))

  module _ (asking own_rows : List Entry) (bounds : List ℕ) (ranked pending first i : ℕ) (rows : Rows set asking own_rows bounds (row_in set i).processor ranked pending first i) (below : i < set.count) where
    -- a bound is within its range
    pub row_bounded : (r : ℕ) → verdict_of (equations_of set (bound_in (take i bounds)) i) (row_in set i).deadline ≡ Ok r → Bounded (row_in set i) r
    unfolding equations_of
    row_bounded r e =
        let b = bound_range (equations_of set (bound_in (take i bounds)) i) (row_in set i).deadline (equations_lawful set (bound_in (take i bounds)) i wf below) r e in
        record { fit = fit i 0 below (omega arith); bound_some = b.0; bound_most = b.1 }

    pub row_next : (r : ℕ) → verdict_of (equations_of set (bound_in (take i bounds)) i) (row_in set i).deadline ≡ Ok r → worked set (suc i) ≡ Accepted (take i bounds ++ (r ∷ []))
    row_next r e = worked_bound set i (take i bounds) rows.outcome r e

    pub answer_fault : (fault : Fault) (f : Refusal) → f ≡ refusal_of (fault_at i fault) → verdict_of (equations_of set (bound_in (take i bounds)) i) (row_in set i).deadline ≡ Err fault → Refuses set f
    answer_fault Busy f g e =
        let a : analyse_set set ≡ BusyAt i = busy_ends set (suc i) i below (worked_busy set i (take i bounds) rows.outcome e) in
        record { refusal_is = g ∙ ap refusal_of (sym a); some = λ z. omega (arith, z, ap (λ (x : Refusal). x.number) g) }
    answer_fault (Late q) f g e =
        let a : analyse_set set ≡ LateAt i q = late_ends set (suc i) i q below (worked_late set i (take i bounds) rows.outcome q e) in
        record { refusal_is = g ∙ ap refusal_of (sym a); some = λ z. omega (arith, z, ap (λ (x : Refusal). x.number) g) }

pub answer_accepted : (set : Set) (asking own_rows : List Entry) (bounds : List ℕ) (p ranked pending first i : ℕ) → Rows set asking own_rows bounds p ranked pending first i → set.count ≤ i → Accepts set bounds
unfolding analyse_set
answer_accepted set asking own_rows bounds p ranked pending first i rows h =
    let e : i ≡ set.count = omega (arith, rows.within) in
    record { outcome = subst (λ (n : ℕ). worked set n ≡ Accepted (take n bounds)) e rows.outcome; long = rows.long }
