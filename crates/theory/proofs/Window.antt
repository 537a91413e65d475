-- The window of row i: the ticks since a snapshot at which neither row i nor a higher row of its processor had a job.
-- Definitions only; that every reachable snapshot is quiet or within a window is shown in the files that follow.
use Prim.Native.Nat.{ℕ, suc, ◌+◌, ◌≤◌, ◌<◌}
use mathlib.Core.Path.{◌≡◌, ap}
use mathlib.Core.Logic.{◌⊎◌, inl, inr}
use native.Mathlib.Omega.{arith}
use Rattle.laws.specs.Rounding.{up}
use Rattle.laws.specs.RoundingLaws.{split}
use Rattle.theory.specs.System.{System, work, Above, Higher, Lower, sum_above, sum_higher, sum_lower}
use Rattle.theory.specs.Snapshot.{Snapshot}
use Rattle.theory.specs.Reachable.{Reachable}
use Rattle.theory.specs.Equations.{brought_up_to, start_demand}
use Rattle.theory.specs.Accepted.{Instance, AcceptedRow, InTime}
use Rattle.theory.proofs.Done.{work_done, memory_done}
use Rattle.theory.proofs.Since.{Released, Since}

-- Row j is done with: its bound is sane, and it is in time in every reachable snapshot.
pub record Settled (sys : System) (j : ℕ) : Type 0 where
  pub work_fits : work sys j ≤ sys.bound j
  pub bound_fits : sys.bound j ≤ sys.period j
  pub in_time : (s : Snapshot) → Reachable sys s → InTime sys j s

-- Row i in its turn: it is accepted, and the rows of higher-ranked processors are settled.
pub record Level (sys : System) (i : ℕ) : Type 0 where
  pub below : i < sys.rows
  pub accepted : AcceptedRow sys i
  pub period_some : (j : ℕ) → j < sys.rows → 1 ≤ sys.period j
  pub above : (j : ℕ) → j < sys.rows → Above sys i j → 1 ≤ work sys j → Settled sys j

-- What row i and the higher rows of its processor have left to do.
unfoldable pub pending : System → ℕ → Snapshot → ℕ
pending sys i s = sum_higher sys i s.work_left + s.work_left i

abbrev pub Quiet : System → ℕ → Snapshot → Type 0
Quiet sys i s = pending sys i s ≡ 0

-- All that row i's processor has ever done, and all the memory ticks of higher-ranked ones.
unfoldable pub progress : System → ℕ → Snapshot → ℕ
progress sys i s =
    sum_above sys i (memory_done sys s) + (sum_higher sys i (work_done sys s) + work_done sys s i + sum_lower sys i (work_done sys s))

-- From u to s, x ticks later: u was quiet, each tick brought progress, and no lower row was taken.
pub record Span (sys : System) (i : ℕ) (u s : Snapshot) (x : ℕ) : Type 0 where
  pub began : Reachable sys u
  pub quiet : Quiet sys i u
  pub clock : s.clock ≡ u.clock + x
  pub since : (j : ℕ) → j < sys.rows → Since sys u s x j
  pub lower : (j : ℕ) → j < sys.rows → Lower sys i j → work_done sys s j + s.in_hand j ≤ work_done sys u j + u.in_hand j
  pub busy : x + progress sys i u ≤ progress sys i s

-- x has not passed a solution of z = F z, nor any other z that F does not raise.
abbrev pub NotPast : (ℕ → ℕ) → ℕ → Type 0
NotPast F x = (z : ℕ) → F z ≤ z → x ≤ z

pub not_past_next : (F : ℕ → ℕ) (x : ℕ) → x < F x → NotPast F x → NotPast F (x + 1)
not_past_next F x above not-past z f = go (split z x)
  where
    reached : z ≡ x → ⊥
    reached e = omega (arith, ap F e)

    go : (z ≤ x) ⊎ (x < z) → x + 1 ≤ z
    go (inl h) = absurd (reached (omega (arith, not-past z f)))
    go (inr h) = omega arith

-- Instance q of row i is in hand: the higher rows have done at most what they had to by its start, and what is left fits.
pub record InHand (sys : System) (i : ℕ) {B q : ℕ} (n : Instance sys i B q) (u s : Snapshot) (x : ℕ) : Type 0 where
  pub higher : (j : ℕ) → j < sys.rows → Higher sys i j → work_done sys s j ≤ work_done sys u j + brought_up_to sys n.start j
  pub fits : x + s.work_left i ≤ n.memory_end + sys.computation i

-- Where row i has been released k times since the window opened, its job is instance k - 1, and the next would be instance k.
pub record Window (sys : System) (i : ℕ) (a : AcceptedRow sys i) (s : Snapshot) : Type 0 where
  pub opened : Snapshot
  pub ticks : ℕ
  pub span : Span sys i opened s ticks
  pub short : ticks < a.busy_length
  -- an instance released now would not have started
  pub next : (k : ℕ) → Released opened s i k → NotPast (start_demand sys i a.blocking k) ticks
  -- an instance that waits has not started
  pub waiting : (q : ℕ) → Released opened s i (suc q) → s.in_hand i ≡ 0 → 1 ≤ s.work_left i
      → NotPast (start_demand sys i a.blocking q) ticks
  -- an instance in hand ends in time
  pub in_hand : (q : ℕ) → Released opened s i (suc q) → 1 ≤ s.in_hand i
      → (c : q < up a.busy_length (sys.period i)) → InHand sys i (a.instance q c) opened s ticks
