-- The snapshots between calls that releases and ticks lead to from a fresh start.
use Rattle.std.specs.Prelude.{ℕ, ◌<◌, ◌≡◌}
use Rattle.theory.specs.System.{System}
use Rattle.theory.specs.Snapshot.{Snapshot}
use Rattle.theory.specs.Steps.{Releases, Takes, Runs}

-- Nothing was ever released.
pub record Fresh (sys : System) (s : Snapshot) : Type 0 where
  pub released : (j : ℕ) → j < sys.rows → s.released j ≡ 0
  pub work_left : (j : ℕ) → j < sys.rows → s.work_left j ≡ 0
  pub memory_left : (j : ℕ) → j < sys.rows → s.memory_left j ≡ 0
  pub in_hand : (j : ℕ) → j < sys.rows → s.in_hand j ≡ 0

pub data Reachable (sys : System) : Snapshot → Type 0 where
  fresh : {s : Snapshot} → Fresh sys s → Reachable sys s
  release : {s t : Snapshot} (j : ℕ) → Reachable sys s → Releases sys j s t → Reachable sys t
  tick : {s m t : Snapshot} → Reachable sys s → Takes sys s m → Runs sys m t → Reachable sys t
