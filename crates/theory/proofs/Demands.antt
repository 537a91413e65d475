-- The right sides of the equations rise with the length they are taken at; an accepted bound is at least the row's own work.
use Prim.Native.Nat.{ℕ, suc, ◌+◌, ◌≤◌, ◌<◌}
use mathlib.Core.Path.{◌≡◌}
use native.Mathlib.Nat.{mul-le-mul_right}
use native.Mathlib.Omega.{arith}
use Rattle.laws.specs.Rounding.{up}
use Rattle.laws.specs.RoundingLaws.{up_mono, up_pos, div_mono}
use Rattle.laws.specs.SumsWhereLaws.{where_mono}
use Rattle.theory.specs.System.{System, work, above, higher}
use Rattle.theory.specs.Equations.{memory_within, interference, brought_up_to, ahead, start_demand, memory_demand}
use Rattle.theory.specs.Accepted.{AcceptedRow}

module _ (sys : System) (i : ℕ) {x z : ℕ} (h : x ≤ z) where
  pub interference_rises : interference sys i x ≤ interference sys i z
  unfolding interference memory_within
  interference_rises =
      where_mono (above sys i) (memory_within sys x) (memory_within sys z) sys.rows
      (λ j p c. mul-le-mul_right (sys.memory j) (up_mono (sys.period j) (omega arith)))

  pub brought_up_to_rises : (j : ℕ) → brought_up_to sys x j ≤ brought_up_to sys z j
  unfolding brought_up_to
  brought_up_to_rises j = let e = div_mono (sys.period j) h in mul-le-mul_right (work sys j) (omega arith)

  pub ahead_rises : (B q : ℕ) → ahead sys i B q x ≤ ahead sys i B q z
  unfolding ahead
  ahead_rises B q = omega (arith, where_mono (higher sys i) (brought_up_to sys x) (brought_up_to sys z) sys.rows (λ j p c. brought_up_to_rises j))

-- Before the next instance starts, one job more of row i is done.
pub next_instance : (sys : System) (i B q s : ℕ) → start_demand sys i B (suc q) s ≡ start_demand sys i B q s + work sys i
unfolding start_demand ahead
next_instance sys i B q s = omega arith

pub work_within_bound : (sys : System) (i : ℕ) → 1 ≤ sys.period i → AcceptedRow sys i → work sys i ≤ sys.bound i
unfolding memory_demand
work_within_bound sys i p a =
    let first : 0 < up a.busy_length (sys.period i) = up_pos a.busy_length (sys.period i) p a.busy_some in
    let n = a.instance 0 first in
    omega (arith, n.ends)
