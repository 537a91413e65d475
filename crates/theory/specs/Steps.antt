-- What happens on a board, as relations between the snapshots before and after: a release, and the two halves of a tick.
use Rattle.std.specs.Prelude.{ℕ, ◌+◌, ◌-◌, ◌≤◌, ◌<◌, ◌≡◌, ◌⊎◌}
use Rattle.theory.specs.System.{System, work, Above}
use Rattle.theory.specs.Snapshot.{Snapshot}

-- Everything of row j is as it was.
pub record Unchanged (s t : Snapshot) (j : ℕ) : Type 0 where
  pub released : t.released j ≡ s.released j
  pub last : t.last j ≡ s.last j
  pub work_left : t.work_left j ≡ s.work_left j
  pub memory_left : t.memory_left j ≡ s.memory_left j
  pub in_hand : t.in_hand j ≡ s.in_hand j

-- Row j is released: it was not released less than a period ago, and its earlier job is finished.
pub record Releases (sys : System) (j : ℕ) (s t : Snapshot) : Type 0 where
  pub below : j < sys.rows
  pub not_early : 1 ≤ s.released j → s.last j + sys.period j ≤ s.clock
  pub not_live : s.work_left j ≡ 0
  pub clock : t.clock ≡ s.clock
  pub released : t.released j ≡ s.released j + 1
  pub last : t.last j ≡ s.clock
  pub work_left : t.work_left j ≡ work sys j
  pub memory_left : t.memory_left j ≡ sys.memory j
  pub in_hand : t.in_hand j ≡ 0
  pub others : (k : ℕ) → k < sys.rows → (k ≡ j → ⊥) → Unchanged s t k

-- Rule 1 of a tick. Row j is taken: its processor has none in hand, and no higher row of it is live.
pub record Taken (sys : System) (s t : Snapshot) (j : ℕ) : Type 0 where
  pub live : 1 ≤ s.work_left j
  pub free : (k : ℕ) → k < sys.rows → sys.processor k ≡ sys.processor j → s.in_hand k ≡ 0
  pub first : (k : ℕ) → k < j → sys.processor k ≡ sys.processor j → s.work_left k ≡ 0
  pub in_hand : t.in_hand j ≡ s.work_left j

pub record TakesRow (sys : System) (s t : Snapshot) (j : ℕ) : Type 0 where
  pub released : t.released j ≡ s.released j
  pub last : t.last j ≡ s.last j
  pub work_left : t.work_left j ≡ s.work_left j
  pub memory_left : t.memory_left j ≡ s.memory_left j
  pub hand : (t.in_hand j ≡ s.in_hand j) ⊎ Taken sys s t j

-- A row in hand on processor p.
pub record Holder (sys : System) (s : Snapshot) (p : ℕ) : Type 0 where
  pub row : ℕ
  pub below : row < sys.rows
  pub processor : sys.processor row ≡ p
  pub held : 1 ≤ s.in_hand row

-- Each processor that has a live row has one in hand.
abbrev pub AtWork : System → Snapshot → Type 0
AtWork sys s = (j : ℕ) → j < sys.rows → 1 ≤ s.work_left j → Holder sys s (sys.processor j)

pub record Takes (sys : System) (s t : Snapshot) : Type 0 where
  pub clock : t.clock ≡ s.clock
  pub row : (j : ℕ) → j < sys.rows → TakesRow sys s t j
  pub at_work : AtWork sys t

-- Rules 2 to 5 of a tick. A row that isn't in hand rests,
pub record Rests (s t : Snapshot) (j : ℕ) : Type 0 where
  pub before : s.in_hand j ≡ 0
  pub after : t.in_hand j ≡ 0
  pub work_left : t.work_left j ≡ s.work_left j
  pub memory_left : t.memory_left j ≡ s.memory_left j

-- one in hand works for a tick, in memory while it has memory left,
pub record Works (s t : Snapshot) (j : ℕ) : Type 0 where
  pub before : 1 ≤ s.in_hand j
  pub after : t.in_hand j ≡ t.work_left j
  pub work_left : s.work_left j ≡ t.work_left j + 1
  pub memory_left : t.memory_left j ≡ s.memory_left j - 1

-- or stands without the token, which a row of a higher-ranked processor uses for a memory tick.
pub record Stands (sys : System) (s t : Snapshot) (j : ℕ) : Type 0 where
  pub before : 1 ≤ s.in_hand j
  pub after : t.in_hand j ≡ s.in_hand j
  pub in_memory : 1 ≤ s.memory_left j
  pub work_left : t.work_left j ≡ s.work_left j
  pub memory_left : t.memory_left j ≡ s.memory_left j
  pub other : ℕ
  pub below : other < sys.rows
  pub over : Above sys j other
  pub token : s.memory_left other ≡ t.memory_left other + 1

pub data Moves (sys : System) (s t : Snapshot) (j : ℕ) : Type 0 where
  rests : Rests s t j → Moves sys s t j
  works : Works s t j → Moves sys s t j
  stands : Stands sys s t j → Moves sys s t j

pub record RunsRow (sys : System) (s t : Snapshot) (j : ℕ) : Type 0 where
  pub released : t.released j ≡ s.released j
  pub last : t.last j ≡ s.last j
  pub moves : Moves sys s t j

pub record Runs (sys : System) (s t : Snapshot) : Type 0 where
  pub clock : t.clock ≡ s.clock + 1
  pub row : (j : ℕ) → j < sys.rows → RunsRow sys s t j
