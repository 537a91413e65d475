-- What the analysis has found where it accepts, and what then holds.
use Rattle.std.specs.Prelude.{ℕ, ◌+◌, ◌*◌, ◌≤◌, ◌<◌}
use Rattle.laws.specs.Rounding.{up}
use Rattle.theory.specs.System.{System, work, Lower}
use Rattle.theory.specs.Snapshot.{Snapshot}
use Rattle.theory.specs.Reachable.{Reachable}
use Rattle.theory.specs.Equations.{busy_demand, start_demand, memory_demand}

-- A lower row of row i's processor that is in hand between calls has at most B ticks left.
abbrev pub Blocks : System → (i B : ℕ) → Type 0
Blocks sys i B = (s : Snapshot) → Reachable sys s → (j : ℕ) → j < sys.rows → Lower sys i j → s.in_hand j ≤ B

-- Instance q of row i has a start s and a memory end g, and its finish is within the bound. The equations are asked only as
-- inequalities: that s and g, and L below, are the least does not matter here.
pub record Instance (sys : System) (i B q : ℕ) : Type 0 where
  pub start : ℕ
  pub memory_end : ℕ
  pub starts : start_demand sys i B q start ≤ start
  pub ends : memory_demand sys i B q start memory_end ≤ memory_end
  pub finishes : memory_end + sys.computation i ≤ sys.bound i + q * sys.period i

-- Row i has B and L, its instances in L are as they should be, and its bound is at most its period.
pub record AcceptedRow (sys : System) (i : ℕ) : Type 0 where
  pub blocking : ℕ
  pub blocks : Blocks sys i blocking
  pub busy_length : ℕ
  pub busy_some : 1 ≤ busy_length
  pub busy : busy_demand sys i blocking busy_length ≤ busy_length
  pub instance : (q : ℕ) → q < up busy_length (sys.period i) → Instance sys i blocking q
  pub bound_most : sys.bound i ≤ sys.period i

-- Every row that has anything to do is accepted.
pub record AcceptedSystem (sys : System) : Type 0 where
  pub period_some : (i : ℕ) → i < sys.rows → 1 ≤ sys.period i
  pub row : (i : ℕ) → i < sys.rows → 1 ≤ work sys i → AcceptedRow sys i

-- Row i is in time: what its job has left to do fits before its bound.
abbrev pub InTime : System → ℕ → Snapshot → Type 0
InTime sys i s = 1 ≤ s.work_left i → s.clock + s.work_left i ≤ s.last i + sys.bound i
