-- The accounting of a window: its x ticks, with what is left to do at its end, are at most what came to be done in it.
use Prim.Native.Nat.{ℕ, suc, ◌+◌, ◌*◌, ◌/◌, ◌≤◌, ◌<◌}
use mathlib.Core.Path.{sym, ◌∙◌}
use native.Mathlib.Omega.{arith}
use mathlib.Core.Logic.{◌⊎◌, inl, inr}
use Rattle.laws.specs.Rounding.{up}
use Rattle.laws.specs.RoundingLaws.{split}
use Rattle.laws.specs.SumsWhereLaws.{where_mono, where_plus, where_balance, where_one}
use Rattle.theory.specs.System.{System, work, Above, Higher, above, higher, lower, sum_above, sum_higher, sum_lower}
use Rattle.theory.specs.Snapshot.{Snapshot}
use Rattle.theory.specs.Equations.{memory_within, interference, brought_before, brought_up_to, busy_demand, ahead, start_demand}
use Rattle.theory.proofs.Ranks.{is_above, is_higher, is_lower}
use Rattle.theory.proofs.Orderly.{Orderly, orderly}
use Rattle.theory.proofs.Done.{work_done, memory_done, memory_never}
use Rattle.theory.proofs.Since.{Released, releases_up_to, releases_before, work_brought}
use Rattle.theory.proofs.Interference.{row_interference}
use Rattle.theory.proofs.Window.{Level, pending, progress, Span}
use Rattle.theory.proofs.Pending.{pending_own, pending_higher}

module _ (sys : System) (i : ℕ) (v : Level sys i) (u s : Snapshot) (x : ℕ) (o : Orderly sys s) (w : Span sys i u s x) where
  abbrev B : ℕ
  B = v.accepted.blocking

  began : Orderly sys u
  began = orderly sys w.began

  -- Rows of higher-ranked processors: interference, row by row.
  above_row : (j : ℕ) → j < sys.rows → Above sys i j → memory_done sys s j ≤ memory_done sys u j + memory_within sys x j
  above_row j p h = go (split (work sys j) 0)
    where
      go : (work sys j ≤ 0) ⊎ (0 < work sys j) → memory_done sys s j ≤ memory_done sys u j + memory_within sys x j
      go (inl none) = omega (arith, memory_never sys s j (omega arith))
      go (inr some) =
          let settled = v.above j p h some in
          row_interference sys u s x j
          (record {
            period_some = v.period_some j p;
            work_fits = settled.work_fits;
            bound_fits = settled.bound_fits;
            clock = w.clock;
            in_time = settled.in_time u w.began;
            from = began.row j p;
            to = o.row j p;
            since = w.since j p;
          })

  above_account : sum_above sys i (memory_done sys s) ≤ sum_above sys i (memory_done sys u) + interference sys i x
  unfolding interference
  above_account =
      omega (
        arith,
        where_mono (above sys i) (memory_done sys s) (λ j. memory_done sys u j + memory_within sys x j) sys.rows
            (λ j p c. above_row j p (is_above sys i j c)),
        where_plus (above sys i) (memory_done sys u) (memory_within sys x) sys.rows,
      )

  -- Lower rows: at most the one in hand at u does anything, and no more than B.
  blocking_account : sum_lower sys i u.in_hand ≤ B
  blocking_account =
      where_one (lower sys i) u.in_hand sys.rows B
      (λ j p c. v.accepted.blocks u w.began j p (is_lower sys i j c))
      (λ j k p q c d g h. began.one j k p q ((is_lower sys i j c).0 ∙ sym (is_lower sys i k d).0) g h)

  lower_account : sum_lower sys i (work_done sys s) + sum_lower sys i s.in_hand ≤ sum_lower sys i (work_done sys u) + B
  lower_account =
      omega (
        arith,
        where_balance (lower sys i) (work_done sys s) s.in_hand (work_done sys u) u.in_hand sys.rows
            (λ j p c. w.lower j p (is_lower sys i j c)),
        blocking_account,
      )

  -- All together, where each higher row has done and owes at most its cap, and row i its own.
  accounting : (owed cap : ℕ → ℕ) (own : ℕ)
      → ((j : ℕ) → j < sys.rows → Higher sys i j → work_done sys s j + owed j ≤ work_done sys u j + cap j)
      → work_done sys s i + s.work_left i ≤ work_done sys u i + own
      → x + (sum_higher sys i owed + s.work_left i + sum_lower sys i s.in_hand) ≤ B + (sum_higher sys i cap + own) + interference sys i x
  unfolding progress
  accounting owed cap own highers this =
      omega (
        arith,
        above_account,
        where_balance (higher sys i) (work_done sys s) owed (work_done sys u) cap sys.rows
            (λ j p c. highers j p (is_higher sys i j c)),
        lower_account,
      )

  -- Row i and the higher rows had no job at u, so their releases since account for all.
  own_brought : (most : ℕ) → (w.since i v.below).releases ≤ most → work_done sys s i + s.work_left i ≤ work_done sys u i + most * work sys i
  own_brought most =
      work_brought sys u s x i (w.since i v.below) most (began.row i v.below) (o.row i v.below)
      (omega (arith, pending_own sys i v.below u))

  own_released : (k : ℕ) → Released u s i k → work_done sys s i + s.work_left i ≤ work_done sys u i + k * work sys i
  own_released k e = own_brought k (omega (arith, (w.since i v.below).count))

  higher_brought : (j : ℕ) (p : j < sys.rows) → Higher sys i j → (most : ℕ) → (w.since j p).releases ≤ most
      → work_done sys s j + s.work_left j ≤ work_done sys u j + most * work sys j
  higher_brought j p h most =
      work_brought sys u s x j (w.since j p) most (began.row j p) (o.row j p)
      (omega (arith, pending_higher sys i v.below u j p h))

  pub higher_up_to : (j : ℕ) → j < sys.rows → Higher sys i j → work_done sys s j + s.work_left j ≤ work_done sys u j + brought_up_to sys x j
  unfolding brought_up_to
  higher_up_to j p h =
      higher_brought j p h (x / sys.period j + 1)
      (releases_up_to sys u s x j (w.since j p) (v.period_some j p) w.clock (o.row j p))

  -- At any time, with k releases of row i since u.
  pub account_any : (k : ℕ) → Released u s i k → x + (pending sys i s + sum_lower sys i s.in_hand) ≤ start_demand sys i B k x
  unfolding pending start_demand ahead
  account_any k e = omega (arith, accounting s.work_left (brought_up_to sys x) (k * work sys i) higher_up_to (own_released k e))

  -- Just after a tick, when nothing was released at this clock.
  pub account_ticked : ((j : ℕ) → j < sys.rows → 1 ≤ s.released j → s.last j < s.clock) → x + pending sys i s ≤ busy_demand sys i B x
  unfolding pending busy_demand brought_before
  account_ticked earlier =
      omega (
        arith,
        accounting s.work_left (brought_before sys x) (brought_before sys x i)
            (λ j p h. higher_brought j p h (up x (sys.period j)) (count j p))
            (own_brought (up x (sys.period i)) (count i v.below)),
      )
    where
      count : (j : ℕ) (p : j < sys.rows) → (w.since j p).releases ≤ up x (sys.period j)
      count j p = releases_before sys u s x j (w.since j p) (v.period_some j p) w.clock (earlier j p)

  -- While instance q of row i is in hand, where the higher rows have done at most what they had to by its start z.
  pub account_in_hand : (q z : ℕ) → Released u s i (suc q)
      → ((j : ℕ) → j < sys.rows → Higher sys i j → work_done sys s j ≤ work_done sys u j + brought_up_to sys z j)
      → x + s.work_left i ≤ ahead sys i B q z + work sys i + interference sys i x
  unfolding ahead
  account_in_hand q z e highers =
      omega (
        arith,
        accounting (λ j. 0) (brought_up_to sys z) (suc q * work sys i) (λ j p h. omega (arith, highers j p h)) (own_released (suc q) e),
      )
