-- The states that the rules make, read at one row or one processor.
use mathlib.Core.Path.{◌≡◌, refl, ◌∙◌}
use mathlib.Core.Bool.{Bool}
use Prim.Native.Nat.{ℕ, ◌+◌, ◌<◌}
use lib.ListN.{get_or-replicate}
use borrow.Author.Tests.{eq-eqb, ne_eqb}
use Rattle.std.specs.Prelude.{Option, None}
use Rattle.laws.specs.TabulateLaws.{get_d_tab}
use Rattle.sheet.specs.Ranges.{most_processors, most_rows}
use Rattle.sheet.specs.declared.Set.{Set}
use Rattle.board.specs.declared.Job.{Job}
use Rattle.board.specs.declared.State.{State}
use Rattle.board.specs.States.{no_job, job_at, hand_at, start_set}
use Rattle.board.specs.Rules.{state_of, hand_taken, job_taken, taken, frees_by, job_run_by, ran_by}
use Rattle.board.specs.Calls.{waiting_from, released}

job_of : (s : State) (clock : ℕ) (hand : ℕ → Option ℕ) (job : ℕ → Job) (i : ℕ) → i < most_rows → job_at (state_of s clock hand job) i ≡ job i
job_of s clock hand job i l = get_d_tab most_rows job i no_job l

hand_of : (s : State) (clock : ℕ) (hand : ℕ → Option ℕ) (job : ℕ → Job) (p : ℕ) → p < most_processors → hand_at (state_of s clock hand job) p ≡ hand p
hand_of s clock hand job p l = get_d_tab most_processors hand p None l

-- Rule 1.
pub taken_job : (s : State) (i : ℕ) → i < most_rows → job_at (taken s) i ≡ job_taken s i
unfolding taken
taken_job s = job_of s s.clock (hand_taken s) (job_taken s)

pub taken_hand : (s : State) (p : ℕ) → p < most_processors → hand_at (taken s) p ≡ hand_taken s p
unfolding taken
taken_hand s = hand_of s s.clock (hand_taken s) (job_taken s)

pub taken_set : (s : State) → (taken s).set ≡ s.set
unfolding taken
taken_set s = refl

pub taken_clock : (s : State) → (taken s).clock ≡ s.clock
unfolding taken
taken_clock s = refl

-- Rules 3 to 5, whichever rows have the token.
pub ran_job : (has : ℕ → Bool) (s : State) (i : ℕ) → i < most_rows → job_at (ran_by has s) i ≡ job_run_by has s i
unfolding ran_by
ran_job has s = job_of s (s.clock + 1) (λ p. frees_by has s (hand_at s p)) (job_run_by has s)

pub ran_hand : (has : ℕ → Bool) (s : State) (p : ℕ) → p < most_processors → hand_at (ran_by has s) p ≡ frees_by has s (hand_at s p)
unfolding ran_by
ran_hand has s = hand_of s (s.clock + 1) (λ p. frees_by has s (hand_at s p)) (job_run_by has s)

pub ran_set : (has : ℕ → Bool) (s : State) → (ran_by has s).set ≡ s.set
unfolding ran_by
ran_set has s = refl

pub ran_clock : (has : ℕ → Bool) (s : State) → (ran_by has s).clock ≡ s.clock + 1
unfolding ran_by
ran_clock has s = refl

-- A release.
pub released_job : (s : State) (i : ℕ) → i < most_rows → job_at (released s i) i ≡ waiting_from s.clock (job_at s i)
unfolding released
released_job s i l = get_d_tab most_rows _ i no_job l ∙ rw (eq-eqb i i refl)

pub released_other : (s : State) (i k : ℕ) → k < most_rows → (k ≡ i → ⊥) → job_at (released s i) k ≡ job_at s k
unfolding released
released_other s i k l d = get_d_tab most_rows _ k no_job l ∙ rw (ne_eqb k i d)

pub released_hand : (s : State) (i p : ℕ) → hand_at (released s i) p ≡ hand_at s p
unfolding released
released_hand s i p = refl

pub released_set : (s : State) (i : ℕ) → (released s i).set ≡ s.set
unfolding released
released_set s i = refl

pub released_clock : (s : State) (i : ℕ) → (released s i).clock ≡ s.clock
unfolding released
released_clock s i = refl

-- A fresh start.
pub start_job : (set : Set) (i : ℕ) → i < most_rows → job_at (start_set set) i ≡ no_job
unfolding start_set
start_job set i l = get_or-replicate most_rows i no_job no_job l

pub start_hand : (set : Set) (p : ℕ) → p < most_processors → hand_at (start_set set) p ≡ None
unfolding start_set
start_hand set p l = get_or-replicate most_processors p None None l

pub start_set_lem : (set : Set) → (start_set set).set ≡ set
unfolding start_set
start_set_lem set = refl

pub start_clock : (set : Set) → (start_set set).clock ≡ 0
unfolding start_set
start_clock set = refl
