-- A set with bounds as the theory's system, and a state as the theory's snapshot.
use mathlib.Core.Path.{◌≡◌, refl}
use mathlib.Core.Bool.{Bool, true, false, not}
use Prim.Native.Nat.{ℕ, ◌+◌, ◌≤◌}
use native.Mathlib.Omega.{arith}
use lib.Dec.{eqb}
use borrow.Author.Tests.{eqb-true}
use Rattle.laws.specs.Choice.{pick}
use Rattle.laws.specs.ChoiceLaws.{true_not_false}
use Rattle.sheet.specs.Ranges.{memory_of, computation_of, length_of, row_in}
use Rattle.sheet.specs.declared.Row.{Row}
use Rattle.sheet.specs.declared.Set.{Set}
use Rattle.board.specs.declared.State.{State}
use Rattle.board.specs.declared.Standing.{Standing}
use Rattle.board.specs.declared.Standing.TheVariants.{Absent, Waiting, Memory, Computation}
use Rattle.board.specs.States.{row_at, job_at, standing_at, is_absent, is_memory}
use Rattle.board.specs.Rules.{begins}
use Rattle.board.specs.Work.{work_left, memory_left, live_jobs}
use Rattle.board.proofs.ShapeFacts.{Stands}
use Rattle.theory.specs.System.{System}
use Rattle.theory.specs.Snapshot.{Snapshot}

unfoldable pub system_of : Set → (ℕ → ℕ) → System
system_of set bound =
    record {
      rows = set.count;
      processor = λ j. (row_in set j).processor;
      memory = λ j. memory_of (row_in set j);
      computation = λ j. computation_of (row_in set j);
      period = λ j. (row_in set j).period;
      bound = bound;
    }

-- What a job in hand has left to do.
abbrev pub left_in_hand : Row → Standing → ℕ
left_in_hand row Absent = 0
left_in_hand row Waiting = 0
left_in_hand row (Memory left) = left + computation_of row
left_in_hand row (Computation left) = left

unfoldable pub observed : State → Snapshot
observed s =
    record {
      clock = s.clock;
      released = λ j. (job_at s j).completed + live_jobs (standing_at s j);
      last = λ j. (job_at s j).last;
      work_left = λ j. work_left (row_at s j) (standing_at s j);
      memory_left = λ j. memory_left (row_at s j) (standing_at s j);
      in_hand = λ j. left_in_hand (row_at s j) (standing_at s j);
    }

-- Standings and numbers.
pub none_in_hand : (row : Row) (st : Standing) → Stands row false st → left_in_hand row st ≡ 0
none_in_hand row Absent h = refl
none_in_hand row Waiting h = refl
none_in_hand row (Memory left) h = true_not_false _ h.0 refl
none_in_hand row (Computation left) h = true_not_false _ h.0 refl

pub some_in_hand : (row : Row) (st : Standing) → Stands row true st → 1 ≤ left_in_hand row st
some_in_hand row Absent h = true_not_false _ refl h
some_in_hand row Waiting h = true_not_false _ refl h
some_in_hand row (Memory left) h = omega (arith, h)
some_in_hand row (Computation left) h = omega (arith, h)

pub all_in_hand : (row : Row) (st : Standing) → Stands row (not (is_absent st)) st → left_in_hand row st ≡ work_left row st
all_in_hand row Absent h = refl
all_in_hand row Waiting h = true_not_false _ refl h
all_in_hand row (Memory left) h = refl
all_in_hand row (Computation left) h = refl

pub memory_some : (row : Row) (held : Bool) (st : Standing) → Stands row held st → is_memory st ≡ true → 1 ≤ memory_left row st
memory_some row held Absent h m = true_not_false _ m refl
memory_some row held Waiting h m = true_not_false _ m refl
memory_some row held (Memory left) h m = omega (arith, h)
memory_some row held (Computation left) h m = true_not_false _ m refl

pub memory_in_hand : (row : Row) (held : Bool) (st : Standing) → Stands row held st → is_memory st ≡ true → held ≡ true
memory_in_hand row held Absent h m = true_not_false _ m refl
memory_in_hand row held Waiting h m = true_not_false _ m refl
memory_in_hand row held (Memory left) h m = h.0
memory_in_hand row held (Computation left) h m = true_not_false _ m refl

-- All of a job that is taken is in hand.
pub begun_hand : (row : Row) → left_in_hand row (begins row Waiting) ≡ length_of row
begun_hand row = go (eqb (memory_of row) 0) refl
  where
    go : (b : Bool) → eqb (memory_of row) 0 ≡ b → left_in_hand row (pick b (Computation (computation_of row)) (Memory (memory_of row))) ≡ length_of row
    go true e = omega (arith, eqb-true (memory_of row) 0 e)
    go false e = refl
