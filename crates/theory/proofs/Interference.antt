-- Interference of one row: the memory ticks that a row of a higher-ranked processor does in x ticks are at most its term of A(x).
use Prim.Native.Nat.{ℕ, zero, suc, ◌+◌, ◌-◌, ◌*◌, ◌≤◌, ◌<◌}
use mathlib.Core.Path.{◌≡◌, refl, ap}
use mathlib.Core.Logic.{◌⊎◌, inl, inr, ⊎_elim}
use native.Mathlib.Nat.{mul-le-mul_right}
use native.Mathlib.Omega.{arith}
use Rattle.laws.specs.RoundingLaws.{split, le_up}
use Rattle.theory.specs.System.{System, work}
use Rattle.theory.specs.Snapshot.{Snapshot}
use Rattle.theory.specs.Equations.{memory_within}
use Rattle.theory.specs.Accepted.{InTime}
use Rattle.theory.proofs.Orderly.{OrderlyRow}
use Rattle.theory.proofs.Done.{memory_done, memory_since}
use Rattle.theory.proofs.Since.{Since}

-- The row's bound holds at u, where the x ticks begin.
pub record Meets (sys : System) (u s : Snapshot) (x j : ℕ) : Type 0 where
  pub period_some : 1 ≤ sys.period j
  pub work_fits : work sys j ≤ sys.bound j
  pub bound_fits : sys.bound j ≤ sys.period j
  pub clock : s.clock ≡ u.clock + x
  pub in_time : InTime sys j u
  pub from : OrderlyRow sys u j
  pub to : OrderlyRow sys s j
  pub since : Since sys u s x j

module _ (sys : System) (u s : Snapshot) (x j : ℕ) (h : Meets sys u s x j) where
  abbrev Bounded : Type 0
  Bounded = memory_done sys s j ≤ memory_done sys u j + memory_within sys x j

  -- It is enough to find a number of jobs that the term counts and that hold the memory ticks.
  by_jobs : (jobs : ℕ) → jobs * sys.period j < x + sys.bound j - work sys j + sys.period j
      → memory_done sys s j ≤ memory_done sys u j + jobs * sys.memory j → Bounded
  unfolding memory_within
  by_jobs jobs counted hold =
      let fewer = le_up jobs (x + sys.bound j - work sys j) (sys.period j) h.period_some counted in
      omega (arith, mul-le-mul_right (sys.memory j) fewer)

  -- No release: at most the memory that the job at u had left.
  not_released : h.since.releases ≡ 0 → Bounded
  not_released e = go (split x 0)
    where
      total : memory_done sys s j + s.memory_left j ≡ memory_done sys u j + u.memory_left j + sys.memory j * 0
      total = memory_since sys u s j 0 h.from h.to (omega arith)

      go : (x ≤ 0) ⊎ (0 < x) → Bounded
      go (inl z) = omega (arith, (h.since.none e).2)
      go (inr p) = by_jobs 1 (omega arith) (omega (arith, total))

  -- k + 1 releases.
  released : (k : ℕ) → h.since.releases ≡ suc k → Bounded
  released k e = go (split (u.memory_left j) 0)
    where
      ever : 1 ≤ s.released j
      ever = omega arith

      total : memory_done sys s j + s.memory_left j ≡ memory_done sys u j + u.memory_left j + sys.memory j * suc k
      total = memory_since sys u s j (suc k) h.from h.to (omega arith)

      -- Nothing is carried in: the k + 1 jobs, less the newest where it was released only now.
      alone : u.memory_left j ≤ 0 → (s.clock ≤ s.last j) ⊎ (s.last j < s.clock) → Bounded
      alone none now =
          let spaced : u.clock + suc k * sys.period j ≤ s.last j + sys.period j = omega (arith, h.since.spaced (omega arith), ap (λ z. z * sys.period j) e) in
          ⊎_elim
          (λ c. by_jobs k (omega (arith, h.to.past ever)) (omega (arith, total, h.to.done ever)))
          (λ c. by_jobs (suc k) (omega arith) (omega (arith, total)))
          now

      -- Memory is carried in, from a job that ends within its bound: one job more, less the newest where it has as much still to do.
      beside : 1 ≤ u.memory_left j → (s.clock + u.memory_left j ≤ s.last j + sys.memory j) ⊎ (s.last j + sys.memory j < s.clock + u.memory_left j) → Bounded
      beside some short =
          let carried : u.clock + (u.memory_left j + sys.computation j) ≤ u.last j + sys.bound j = omega (arith, h.in_time (omega arith), h.from.in_memory some) in
          let spaced : u.last j + suc k * sys.period j ≤ s.last j = omega (arith, h.since.spaced_from (omega arith) (h.from.ever (omega arith)), ap (λ z. z * sys.period j) e) in
          ⊎_elim
          (λ c. by_jobs (suc k) (omega (arith, h.to.past ever)) (omega (arith, total, h.to.done ever)))
          (λ c. by_jobs (suc (suc k)) (omega (arith, h.to.past ever)) (omega (arith, total)))
          short

      go : (u.memory_left j ≤ 0) ⊎ (0 < u.memory_left j) → Bounded
      go (inl none) = alone none (split s.clock (s.last j))
      go (inr some) = beside some (split (s.clock + u.memory_left j) (s.last j + sys.memory j))

  pub row_interference : Bounded
  row_interference = go h.since.releases refl
    where
      go : (k : ℕ) → h.since.releases ≡ k → Bounded
      go zero e = not_released e
      go (suc k) e = released k e
