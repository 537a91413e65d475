-- What the analysis accepts, the theory accepts: the same sums, the same equations, and the bounds that come of them.
use mathlib.Core.Path.{◌≡◌, refl, ap₂}
use mathlib.Core.List.{List}
use Prim.Native.Nat.{ℕ, ◌+◌, ◌*◌, ◌<◌}
use native.Mathlib.Omega.{arith}
use Rattle.laws.specs.Rounding.{up}
use Rattle.laws.specs.RoundingLaws.{up_below}
use Rattle.sheet.specs.Ranges.{row_in, WellFormed}
use Rattle.sheet.specs.declared.Set.{Set}
use Rattle.analysis.specs.Equations.{Equations, busy_at, start_at, end_at}
use Rattle.analysis.specs.Bounds.{sum_over, blocking, token_taken, equations_of, Accepted, bound_in, analyse_set}
use Rattle.analysis.proofs.BlockingLaws.{blocks}
use Rattle.analysis.proofs.AcceptedBounds.{BoundedRow, row_bounded}
use Rattle.theory.specs.System.{System, sum_higher}
use Rattle.theory.specs.Equations.{memory_within, interference, brought_before, brought_up_to, busy_demand, ahead, start_demand, memory_demand}
use Rattle.theory.specs.Accepted.{Instance, AcceptedRow, AcceptedSystem}
use Rattle.theory.proofs.Blocking.{blocks_by_work}
use Rattle.promise.proofs.Observed.{system_of}

module _ (set : Set) (bound : ℕ → ℕ) (i : ℕ) where
  abbrev sys : System
  sys = system_of set bound

  abbrev k : Equations
  k = equations_of set bound i

  same_token : (x : ℕ) → interference sys i x ≡ k.token x
  unfolding interference memory_within system_of equations_of token_taken sum_over
  same_token x = refl

  same_above : (x : ℕ) → sum_higher sys i (brought_before sys x) ≡ k.above x
  unfolding brought_before system_of equations_of sum_over
  same_above x = refl

  same_started : (x : ℕ) → sum_higher sys i (brought_up_to sys x) ≡ k.started x
  unfolding brought_up_to system_of equations_of sum_over
  same_started x = refl

  same_busy : (x : ℕ) → busy_demand sys i (blocking set i) x ≡ busy_at k x
  unfolding busy_demand busy_at brought_before system_of equations_of
  same_busy x = ap₂ (λ (a t : ℕ). blocking set i + (a + up x k.period * (k.memory + k.computation)) + t) (same_above x) (same_token x)

  same_start : (q s : ℕ) → start_demand sys i (blocking set i) q s ≡ start_at k q s
  unfolding start_demand ahead start_at system_of equations_of
  same_start q s = ap₂ (λ (a t : ℕ). blocking set i + q * (k.memory + k.computation) + a + t) (same_started s) (same_token s)

  same_end : (q s g : ℕ) → memory_demand sys i (blocking set i) q s g ≡ end_at k q s g
  unfolding memory_demand ahead end_at system_of equations_of
  same_end q s g = ap₂ (λ (a t : ℕ). blocking set i + q * (k.memory + k.computation) + a + k.memory + t) (same_started s) (same_token g)

-- A row with a bound, in the theory's words.
module _ (set : Set) (w : WellFormed set) (bounds : List ℕ) (e : analyse_set set ≡ Accepted bounds) (i : ℕ) (l : i < set.count) where
  pub row_bound : BoundedRow set bounds i
  row_bound = row_bounded set w bounds e i l

  instance_of : (q : ℕ) → q < up row_bound.L (row_in set i).period → Instance (system_of set (bound_in bounds)) i (blocking set i) q
  unfolding system_of equations_of start_at end_at
  instance_of q h =
      let r = row_bound in
      let b : q * (row_in set i).period < r.L = up_below r.L (row_in set i).period q (w.row i l).period_some h in
      record {
        start = r.s q;
        memory_end = r.g q;
        starts = omega (arith, same_start set (bound_in bounds) i q (r.s q), r.s_is q b);
        ends = omega (arith, same_end set (bound_in bounds) i q (r.s q) (r.g q), r.g_is q b);
        finishes = r.finish q b;
      }

  row_accepted : AcceptedRow (system_of set (bound_in bounds)) i
  unfolding system_of equations_of busy_at
  row_accepted =
      let r = row_bound in
      record {
        blocking = blocking set i;
        blocks = blocks_by_work (system_of set (bound_in bounds)) i (blocking set i) (λ j p o. blocks set i j p o.1 o.0);
        busy_length = r.L;
        busy_some = r.L_some;
        busy = omega (arith, same_busy set (bound_in bounds) i r.L, r.L_is);
        instance = instance_of;
        bound_most = omega (arith, r.deadline_most, (w.row i l).deadline_most);
      }

-- Where the analysis accepts a set, the theory accepts it with those bounds.
pub accepted_system : (set : Set) → WellFormed set → (bounds : List ℕ) → analyse_set set ≡ Accepted bounds → AcceptedSystem (system_of set (bound_in bounds))
unfolding system_of
accepted_system set w bounds e =
    record { period_some = λ i l. (w.row i l).period_some; row = λ i l h. row_accepted set w bounds e i l }
