-- What acceptance says of each row: its bound lies between its length and its deadline, and its equations have solutions by
-- which no instance responds later than the bound.
use Prim.Native.Nat.{ℕ, suc, ◌+◌, ◌*◌, ◌≤◌, ◌<◌}
use mathlib.Core.Path.{◌≡◌}
use mathlib.Core.List.{List}
use native.Mathlib.Omega.{arith}
use native.Mathlib.Nat.{suc-mul}
use lib.ListN.{length}
use Rattle.std.specs.Prelude.{Some}
use Rattle.laws.specs.RoundingLaws.{le_up}
use Rattle.laws.specs.Sums.{max_to}
use Rattle.laws.specs.SumLaws.{max_at}
use Rattle.laws.specs.LeastLaws.{least_at}
use Rattle.sheet.specs.declared.Set.{Set}
use Rattle.sheet.specs.Ranges.{row_in, memory_of, computation_of, length_of, WellFormed}
use Rattle.std.specs.Prelude.{Ok}
use Rattle.analysis.specs.Equations.{Equations, whole_of, limit, busy_at, busy_length, instances_in, start_at, start, end_at, memory_end, response, verdict_of}
use Rattle.analysis.specs.Bounds.{is_higher, sum_over, asked, asked_with, blocking, token_taken, equations_of, bound_in, Accepted, analyse_set}
use Rattle.analysis.proofs.Lawful.{Lawful}
use Rattle.analysis.proofs.InstancesExist.{Instance, instance_exists, busy_solves, response_by}
use Rattle.analysis.proofs.VerdictLaws.{verdict_length, judged_bound, bound_range}
use Rattle.analysis.proofs.RowLaws.{equations_lawful}
use Rattle.analysis.proofs.ExactRow.{bound_is}
use Rattle.analysis.proofs.Exact.{exact}

pub record BoundedRow (set : Set) (bounds : List ℕ) (i : ℕ) : Type 0 where
  pub length_least : length_of (row_in set i) ≤ bound_in bounds i
  pub deadline_most : bound_in bounds i ≤ (row_in set i).deadline
  pub L : ℕ
  pub L_some : 1 ≤ L
  pub L_most : L ≤ limit
  pub L_is :
      L
      ≡ blocking set i
      + (sum_over set (is_higher set i) (λ j. asked length_of (row_in set j) L) + asked length_of (row_in set i) L)
      + token_taken set (bound_in bounds) i L
  pub s : ℕ → ℕ
  pub g : ℕ → ℕ
  pub s_is : (q : ℕ) → q * (row_in set i).period < L
      → s q
      ≡ blocking set i
      + q * length_of (row_in set i)
      + sum_over set (is_higher set i) (λ j. asked_with length_of (row_in set j) (s q))
      + token_taken set (bound_in bounds) i (s q)
  pub g_is : (q : ℕ) → q * (row_in set i).period < L
      → g q
      ≡ blocking set i
      + q * length_of (row_in set i)
      + sum_over set (is_higher set i) (λ j. asked_with length_of (row_in set j) (s q))
      + memory_of (row_in set i)
      + token_taken set (bound_in bounds) i (g q)
  pub finish : (q : ℕ) → q * (row_in set i).period < L → g q + computation_of (row_in set i) ≤ bound_in bounds i + q * (row_in set i).period

-- the same for any row's equations with a verdict
record Solved (k : Equations) (D R L : ℕ) : Type 0 where
  range : (whole_of k ≤ R) × (R ≤ D)
  busy : (1 ≤ L) × (L ≤ limit) × (L ≡ busy_at k L)
  starts : (q : ℕ) → q * k.period < L → start k q ≡ start_at k q (start k q)
  ends : (q : ℕ) → q * k.period < L → memory_end k q ≡ end_at k q (start k q) (memory_end k q)
  finishes : (q : ℕ) → q * k.period < L → memory_end k q + k.computation ≤ R + q * k.period

solved : (k : Equations) → Lawful k → (D R : ℕ) → verdict_of k D ≡ Ok R → (L : ℕ) × Solved k D R L
solved k lawful D R e =
    let t = verdict_length k D (Ok R) e (λ z. let q : ◌≡◌ {A = ℕ} 0 1 = cc in omega arith) in
    (t.0, from t.0 t.1 (judged_bound k D (instances_in k t.0) R t.2).1)
  where
    below : (L q : ℕ) → q * k.period < L → q < instances_in k L
    below L q h = le_up (suc q) L k.period lawful.some_period (omega (arith, suc-mul q k.period))

    from : (L : ℕ) → busy_length k ≡ Some L → R ≡ max_to (response k) (instances_in k L) → Solved k D R L
    from L f m =
        let b = busy_solves k lawful L f in
        let at : (q : ℕ) → q * k.period < L → Instance k L q = λ q h. instance_exists k lawful L f q (below L q h) in
        record {
          range = bound_range k D lawful R e;
          busy = (b.from, b.within, b.equal);
          starts = λ q h. (least_at (start_at k q) limit 0 (start k q) (at q h).starts).equal;
          ends = λ q h. (least_at (end_at k q (start k q)) limit 0 (memory_end k q) (at q h).ends).equal;
          finishes = λ q h. omega (arith, m, max_at (response k) (instances_in k L) q (below L q h), response_by k L q (at q h));
        }

module _ (set : Set) (wf : WellFormed set) (bounds : List ℕ) (accepted : analyse_set set ≡ Accepted bounds) where
  pub bounds_number : length bounds ≡ set.count
  bounds_number = ((exact set wf (Accepted bounds)).0 accepted).number

  pub row_bounded : (i : ℕ) → i < set.count → BoundedRow set bounds i
  unfolding equations_of busy_at start_at end_at
  row_bounded i l =
      let k : Equations = equations_of set (bound_in bounds) i in
      let lawful = equations_lawful set (bound_in bounds) i wf l in
      let h = ((exact set wf (Accepted bounds)).0 accepted).row i l in
      let t = solved k lawful (row_in set i).deadline (bound_in bounds i) (bound_is k lawful (row_in set i).deadline (bound_in bounds i) h) in
      let v = t.1 in
      record {
        length_least = v.range.0;
        deadline_most = v.range.1;
        L = t.0;
        L_some = v.busy.0;
        L_most = v.busy.1;
        L_is = v.busy.2;
        s = start k;
        g = memory_end k;
        s_is = v.starts;
        g_is = v.ends;
        finish = v.finishes;
      }
