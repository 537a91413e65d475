-- A climb to a solution that exists, from below it: where it may begin, and a turn of it.
use Prim.Native.Nat.{ℕ, ◌+◌, ◌≤◌, ◌<◌}
use mathlib.Core.Path.{◌≡◌}
use native.Mathlib.Omega.{arith}
use Rattle.laws.specs.LeastLaws.{Mono, least_at, least_under}
use Rattle.analysis.specs.Equations.{Equations, limit, start_at, start, end_at, memory_end}
use Rattle.analysis.specs.Parts.{solution, Warm}
use Rattle.analysis.proofs.Lawful.{Rising}
use Rattle.analysis.proofs.InstancesExist.{Instance}

pub warm_here : (F : ℕ → ℕ) (x : ℕ) → Warm F x → x ≤ limit
warm_here F x warm = omega (arith, warm.under, (least_at F limit 0 (solution F) warm.exists).within)

-- A turn of the climb, at x.
module _ (F : ℕ → ℕ) (mono : Mono F) (x : ℕ) (warm : Warm F x) where
  pub warm_within : F x ≤ limit
  warm_within =
      let s = least_at F limit 0 (solution F) warm.exists in
      omega (arith, mono x (solution F) warm.under, s.equal, s.within)

  pub warm_found : x ≡ F x → x ≡ solution F
  warm_found e = omega (arith, warm.under, least_under F limit mono 0 (solution F) x warm.exists (omega arith) (omega arith) (omega arith))

  pub warm_on : (x ≡ F x → ⊥) → Warm F (F x) × (x < F x)
  warm_on n =
      let s = least_at F limit 0 (solution F) warm.exists in
      let h : x < F x = omega (arith, warm.rises, n) in
      (record { exists = warm.exists; under = omega (arith, mono x (solution F) warm.under, s.equal); rises = mono x (F x) warm.rises }, h)

-- The memory end is looked for from m after the start.
pub warm_end : (k : Equations) → Rising k → (L q : ℕ) → Instance k L q → Warm (end_at k q (start k q)) (start k q + k.memory)
unfolding memory_end start_at end_at
warm_end k rising L q i =
    let a : start k q ≡ start_at k q (start k q) = (least_at (start_at k q) limit 0 (start k q) i.starts).equal in
    record {
      exists = i.ends;
      under = i.memory_after;
      rises = omega (arith, rising.token_mono (start k q) (start k q + k.memory) (omega arith));
    }
