-- What the laws of a row's equations ask of them, whatever B and the phase lengths are; the equations rise.
use Prim.Native.Nat.{ℕ, suc, ◌≤◌}
use mathlib.Core.Path.{◌≡◌}
use native.Mathlib.Omega.{arith}
use native.Mathlib.Nat.{mul-le-mul_right}
use Rattle.laws.specs.RoundingLaws.{up_mono}
use Rattle.laws.specs.LeastLaws.{Mono}
use Rattle.analysis.specs.Equations.{Equations, whole_of, busy_at, start_at, end_at}

pub record Rising (k : Equations) : Type 0 where
  pub above_mono : Mono k.above
  pub started_mono : Mono k.started
  pub token_mono : Mono k.token

pub record Lawful (k : Equations) : Type 0 where
  pub rising : Rising k
  pub some_work : 1 ≤ whole_of k
  pub some_period : 1 ≤ k.period
  -- what is asked with the releases at x is asked before the next number
  pub above_next : (x : ℕ) → k.above (suc x) ≡ k.started x

module _ (k : Equations) (rising : Rising k) where
  pub busy_mono : Mono (busy_at k)
  unfolding busy_at
  busy_mono x y h =
      omega (arith, rising.above_mono x y h, rising.token_mono x y h, mul-le-mul_right (whole_of k) (up_mono k.period h))

  pub start_mono : (q : ℕ) → Mono (start_at k q)
  unfolding start_at
  start_mono q x y h = omega (arith, rising.started_mono x y h, rising.token_mono x y h)

  pub end_mono : (q s : ℕ) → Mono (end_at k q s)
  unfolding end_at
  end_mono q s x y h = omega (arith, rising.token_mono x y h)
