-- A number that is at least the work of each lower row serves as the blocking B.
use Prim.Native.Nat.{ℕ, ◌≤◌, ◌<◌}
use native.Mathlib.Omega.{arith}
use Rattle.theory.specs.System.{System, work, Lower}
use Rattle.theory.specs.Accepted.{Blocks}
use Rattle.theory.proofs.Orderly.{orderly}

pub blocks_by_work : (sys : System) (i B : ℕ) → ((j : ℕ) → j < sys.rows → Lower sys i j → work sys j ≤ B) → Blocks sys i B
blocks_by_work sys i B most s r j p l = let o = (orderly sys r).row j p in omega (arith, most j p l)
