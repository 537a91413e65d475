-- What is promised of a fresh start and the bounds of its rows, under any calls.
use Rattle.std.specs.Prelude.{ℕ, ◌+◌, ◌≤◌, ◌<◌, ◌≡◌, false, List, length, Ok}
use Rattle.sheet.specs.Refusals.{LIVE, accepted, carried}
use Rattle.sheet.specs.Ranges.{WellFormed}
use Rattle.sheet.specs.declared.Set.{Set}
use Rattle.analysis.specs.Bounds.{Accepted, bound_in, analyse_set}
use Rattle.analysis.specs.Analysis.{analyse_refusal, analysed}
use Rattle.board.specs.declared.State.{State}
use Rattle.board.specs.States.{row_at, job_at, standing_at, is_absent, start_set}
use Rattle.board.specs.Calls.{start_of, release_of}
use Rattle.board.specs.Work.{work_left}
use Rattle.runs.specs.Runs.{Call, calls, ticks_in}

-- Row i is in time: what its live job has still to do ends within the bound after its release, no response was above the bound,
-- and the bound is no later than the deadline.
pub record RowInTime (s : State) (i bound : ℕ) : Type 0 where
  pub live : is_absent (standing_at s i) ≡ false → s.clock + work_left (row_at s i) (standing_at s i) ≤ (job_at s i).last + bound
  pub worst : (job_at s i).worst ≤ bound
  pub deadline : bound ≤ (row_at s i).deadline

-- Whatever the calls, every row is in time.
abbrev pub AlwaysInTime : State → (ℕ → ℕ) → Type 0
AlwaysInTime fresh bound = (cs : List Call) (i : ℕ) → i < fresh.set.count → RowInTime (calls fresh cs) i (bound i)

-- Each released job is complete once as many ticks have been accepted after its release as its row's bound.
abbrev pub CompleteInTime : State → (ℕ → ℕ) → Type 0
CompleteInTime fresh bound =
    (before : List Call) (i : ℕ) (after : List Call)
    → let s = calls fresh before in
    carried (release_of s i).answer ≡ accepted
    → bound i ≤ ticks_in (release_of s i).state after
    → (job_at s i).completed < (job_at (calls (release_of s i).state after) i).completed

-- No release is ever refused because the earlier job is live.
abbrev pub NeverLive : State → Type 0
NeverLive fresh = (cs : List Call) (i : ℕ) → (carried (release_of (calls fresh cs) i).answer).number ≡ LIVE → ⊥

-- All three, from a fresh start.
pub record Promises (fresh : State) (bound : ℕ → ℕ) : Type 0 where
  pub in_time : AlwaysInTime fresh bound
  pub complete : CompleteInTime fresh bound
  pub never_live : NeverLive fresh

-- Demand 3, for sets: whatever well-formed set the analysis accepts, with the bounds that it gives.
abbrev pub PromisedOfSets : Type 0
PromisedOfSets = (set : Set) (bounds : List ℕ) → WellFormed set → analyse_set set ≡ Accepted bounds → Promises (start_set set) (bound_in bounds)

-- Demand 3, for sheets: whatever bytes the analysis accepts, with the bounds that it writes and the start that the board makes.
pub record SheetPromised (sheet buffer : List ℕ) : Type 0 where
  pub starts : (start_of sheet).refusal ≡ Ok (tt {0})
  pub holds : Promises (start_of sheet).state (bound_in (analysed sheet buffer))

abbrev pub PromisedOfSheets : Type 0
PromisedOfSheets = (sheet buffer : List ℕ) → analyse_refusal sheet (length buffer) ≡ accepted → SheetPromised sheet buffer
