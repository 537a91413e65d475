-- What the argument looks at on a board.
use Rattle.std.specs.Prelude.{ℕ}

-- The clock, and of each row:
pub record Snapshot : Type 0 where
  pub clock : ℕ
  -- how often it was released
  pub released : ℕ → ℕ
  -- the last release
  pub last : ℕ → ℕ
  -- the ticks that its job has still to do; 0 where the job is absent
  pub work_left : ℕ → ℕ
  -- the memory ticks among them
  pub memory_left : ℕ → ℕ
  -- the ticks still to do of a job in hand; 0 for any other
  pub in_hand : ℕ → ℕ
