-- The answers of start and release, case by case.
use Prim.Native.Nat.{ℕ, ◌+◌, ◌-◌, ◌≤◌, ◌<◌}
use mathlib.Core.Path.{◌≡◌, refl, sym, ap, ◌∙◌}
use mathlib.Core.Bool.{Bool, true, false, ◌&&◌}
use mathlib.Core.List.{List}
use borrow.Author.Tests.{lt-ltb, le-ltb, lt-leb, le-leb, eq-eqb, ne_eqb}
use native.Mathlib.Omega.{arith}
use native.Mathlib.Decide.{ℕ_discrete, dec_lt}
use lib.ListN.{length, get_or, set, length-set, replicate, length-replicate, get_or-replicate}
use lib.Seq.{ext_get_or, get_or-set_same, get_or-set_other}
use lib.Dec.{eqb, ltb}
use Rattle.laws.specs.Choice.{pick, first_of}
use Rattle.laws.specs.ChoiceLaws.{pick_false}
use Rattle.laws.specs.TabulateLaws.{set_tab}
use Rattle.sheet.specs.declared.Reading.{Reading}
use Rattle.sheet.specs.Refusals.{STATE, ROW, refused, accepted, answered, carried}
use Rattle.sheet.specs.Ranges.{most_rows, zero_set}
use Rattle.board.specs.declared.Job.{Job}
use Rattle.board.specs.declared.State.{State}
use Rattle.board.specs.States.{no_job, row_at, job_at, start_set, zero_state}
use Rattle.board.specs.Shape.{shape_ok}
use Rattle.board.specs.Calls.{is_early, release_table, release_number, waiting_from, released, start_reading, release_of}

-- A job stored where it stands already.
pub stored_again : (job : Job) (i : ℕ) → i < most_rows → set (replicate most_rows job) i job ≡ replicate most_rows job
stored_again job i l = ext_get_or no_job _ _ (length-set (replicate most_rows job) i job) (λ k g. at k (ℕ_discrete k i))
  where
    long : length (replicate most_rows job) ≡ most_rows
    long = length-replicate most_rows job

    at : (k : ℕ) → Dec (k ≡ i) → get_or (set (replicate most_rows job) i job) k no_job ≡ get_or (replicate most_rows job) k no_job
    at k (yes e) = rw (e, get_or-set_same (replicate most_rows job) i job no_job (omega (arith, long))) (sym (get_or-replicate most_rows i job no_job l))
    at k (no n) = get_or-set_other (replicate most_rows job) i k job no_job n

-- Start: a fresh start over the all-zero set is the all-zero state.
pub start_zero : start_set zero_set ≡ zero_state
unfolding start_set zero_state
start_zero = refl

-- A start from what was read, or from what could not be.
pub start_read : (r : Reading) → (carried r.refusal).number ≡ 0 → record { state = start_set r.set; refusal = r.refusal } ≡ start_reading r
unfolding start_reading
start_read r e = rw (eq-eqb (carried r.refusal).number 0 e)

pub start_unread : (r : Reading) → ((carried r.refusal).number ≡ 0 → ⊥) → record { state = zero_state; refusal = r.refusal } ≡ start_reading r
unfolding start_reading
start_unread r n = rw (ne_eqb (carried r.refusal).number 0 n)

-- Less than T ticks ago, by the difference that the code takes.
pub early_is : (clock period : ℕ) (job : Job) → job.last ≤ clock → is_early clock period job ≡ (job.ever && ltb (clock - job.last) period)
early_is clock period job l = ap (λ (b : Bool). job.ever && b) (go (dec_lt clock (job.last + period)))
  where
    go : Dec (clock < job.last + period) → ltb clock (job.last + period) ≡ ltb (clock - job.last) period
    go (yes h) = rw (lt-ltb clock (job.last + period) h, lt-ltb (clock - job.last) period (omega arith))
    go (no h) = rw (le-ltb clock (job.last + period) (omega arith), le-ltb (clock - job.last) period (omega arith))

-- Release.
module _ (s : State) (i : ℕ) where
  numbered : (n : ℕ) → release_number s i ≡ n → release_of s i ≡ record { state = pick (eqb n 0) (released s i) s; answer = answered (refused n 0) }
  unfolding release_of
  numbered n e = ap (λ (x : ℕ). record { state = pick (eqb x 0) (released s i) s; answer = answered (refused x 0) }) e

  pub release_shapeless : shape_ok s ≡ false → release_of s i ≡ record { state = s; answer = answered (refused STATE 0) }
  unfolding release_number first_of
  release_shapeless h = numbered STATE (rw h)

  pub release_no_row : shape_ok s ≡ true → s.set.count ≤ i → release_of s i ≡ record { state = s; answer = answered (refused ROW 0) }
  unfolding release_number first_of
  release_no_row h l = numbered ROW (rw (h, le-leb s.set.count i l))

  module _ (h : shape_ok s ≡ true) (l : i < s.set.count) where
    abbrev number : ℕ
    number = first_of (release_table s.clock (row_at s i).period (job_at s i))

    number_is : release_number s i ≡ number
    unfolding release_number first_of
    number_is = rw (h, lt-leb s.set.count i l)

    pub release_stays : (n : ℕ) → n ≡ number → (n ≡ 0 → ⊥) → release_of s i ≡ record { state = s; answer = answered (refused n 0) }
    release_stays n e d =
        numbered n (number_is ∙ sym e)
        ∙ ap (λ (x : State). record { state = x; answer = answered (refused n 0) }) (pick_false (eqb n 0) (released s i) s (ne_eqb n 0 d))

    pub release_taken : number ≡ 0 → release_of s i ≡ record { state = released s i; answer = answered accepted }
    release_taken e = numbered 0 (number_is ∙ e)

  -- the state released, where the job is stored
  pub release_stored : length s.jobs ≡ most_rows → i < most_rows
      → record { set = s.set; clock = s.clock; hands = s.hands; jobs = set s.jobs i (waiting_from s.clock (job_at s i)) } ≡ released s i
  unfolding released
  release_stored n l =
      ap (λ (x : List Job). record { set = s.set; clock = s.clock; hands = s.hands; jobs = x }) (set_tab s.jobs most_rows i (waiting_from s.clock (job_at s i)) no_job n l)
