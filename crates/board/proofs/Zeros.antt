-- A sum is 0 exactly if each of its numbers is.
use Prim.Native.Nat.{ℕ, ◌+◌}
use mathlib.Core.Path.{◌≡◌, refl}
use mathlib.Core.Bool.{Bool, true, false, ◌&&◌}
use native.Mathlib.Omega.{arith}
use native.Mathlib.Decide.{ℕ_discrete}
use borrow.Author.Tests.{eq-eqb, ne_eqb}
use lib.Dec.{eqb}
use Rattle.board.specs.declared.Job.{Job}
use Rattle.board.specs.States.{is_absent}
use Rattle.board.specs.Shape.{absent_with_zeros}

pub sum_zero : (a b : ℕ) → eqb (a + b) 0 ≡ (eqb a 0 && eqb b 0)
sum_zero a b = go (ℕ_discrete a 0) (ℕ_discrete b 0)
  where
    go : Dec (a ≡ 0) → Dec (b ≡ 0) → eqb (a + b) 0 ≡ (eqb a 0 && eqb b 0)
    go (yes p) (yes q) = simp (eq-eqb a 0 p, eq-eqb b 0 q, eq-eqb (a + b) 0 (omega (arith, p, q)))
    go (yes p) (no q) = simp (eq-eqb a 0 p, ne_eqb b 0 q, ne_eqb (a + b) 0 (λ e. q (omega (arith, e))))
    go (no p) q = simp (ne_eqb a 0 p, ne_eqb (a + b) 0 (λ e. p (omega (arith, e))))

sum_zero_3 : (t : Bool) (a b c : ℕ) → (t && eqb (a + b + c) 0) ≡ (t && eqb a 0 && eqb b 0 && eqb c 0)
sum_zero_3 true a b c = simp sum_zero
sum_zero_3 false a b c = refl

pub zeros_summed : (job : Job) → (is_absent job.standing && eqb (job.last + job.worst + job.completed) 0) ≡ absent_with_zeros job
unfolding absent_with_zeros
zeros_summed job = sum_zero_3 (is_absent job.standing) job.last job.worst job.completed
