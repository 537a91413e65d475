-- What a tick makes of one row's job: it completes, or it goes on.
use mathlib.Core.Path.{◌≡◌, refl, sym, ap, ap₂, subst, ◌∙◌}
use mathlib.Core.Bool.{Bool, true, false, and-eq-true_iff}
use mathlib.Core.Logic.{◌⊎◌, inl, inr}
use Prim.Native.Nat.{ℕ, ◌+◌, ◌-◌, ◌≤◌, ◌<◌, max}
use native.Mathlib.Omega.{arith}
use borrow.Author.Tests.{not-true}
use Rattle.laws.specs.Choice.{pick}
use Rattle.laws.specs.ChoiceLaws.{true_not_false}
use Rattle.sheet.specs.Ranges.{most_rows, length_of}
use Rattle.sheet.specs.declared.Row.{Row}
use Rattle.board.specs.declared.Job.{Job}
use Rattle.board.specs.declared.State.{State}
use Rattle.board.specs.declared.Standing.{Standing}
use Rattle.board.specs.declared.Standing.TheVariants.{Absent, Waiting, Memory, Computation}
use Rattle.board.specs.States.{row_at, job_at, standing_at, is_absent, in_hand}
use Rattle.board.specs.Rules.{stand_as, taken, steps, finishes, finished, completes_by, job_taken, job_run_by, ran_by}
use Rattle.board.specs.Work.{work_left, live_jobs}
use Rattle.board.proofs.ShapeFacts.{Stands, Kept, Shaped, set_well_formed, below_most}
use Rattle.board.proofs.Pointwise.{taken_job, taken_clock, ran_job}
use Rattle.board.proofs.Standings.{begins_live}
use Rattle.board.proofs.Taking.{AsWas, Begins, row_how}

pub record Completes (clock : ℕ) (job next : Job) : Type 0 where
  pub live : is_absent job.standing ≡ false
  pub absent : is_absent next.standing ≡ true
  pub ever : next.ever ≡ job.ever
  pub last : next.last ≡ job.last
  pub worst : next.worst ≡ max job.worst (clock + 1 - job.last)
  pub completed : next.completed ≡ job.completed + 1

-- It changes in its standing alone, and is absent exactly if it was.
pub record Continues (job next : Job) : Type 0 where
  pub absent : is_absent next.standing ≡ is_absent job.standing
  pub ever : next.ever ≡ job.ever
  pub last : next.last ≡ job.last
  pub worst : next.worst ≡ job.worst
  pub completed : next.completed ≡ job.completed

abbrev pub Ticks : (clock : ℕ) (job next : Job) → Type 0
Ticks clock job next = Completes clock job next ⊎ Continues job next

standing_as : (job : Job) (st : Standing) → is_absent st ≡ is_absent job.standing → Continues job (stand_as job st)
standing_as job st e = record { absent = e; ever = refl; last = refl; worst = refl; completed = refl }

-- Rule 1: the job goes on.
pub carried : (s : State) → Shaped s → (i : ℕ) → i < s.set.count → Continues (job_at s i) (job_at (taken s) i)
carried s f i l = subst (Continues (job_at s i)) (sym (taken_job s i (below_most s f i l))) (go (row_how s f i l))
  where
    go : AsWas s i ⊎ Begins s i → Continues (job_at s i) (job_taken s i)
    go (inl a) = subst (Continues (job_at s i)) (sym a.job) (standing_as (job_at s i) (job_at s i).standing refl)
    go (inr b) =
        subst (Continues (job_at s i)) (sym b.job)
        (standing_as (job_at s i) _ (begins_live (row_at s i) Waiting refl ∙ sym (ap is_absent b.waited)))

-- Rules 3 and 4, whichever rows have the token.
goes_on : (row : Row) (token : Bool) (st : Standing) → finishes row token st ≡ false → is_absent (steps row token st) ≡ is_absent st
goes_on row token Absent e = refl
goes_on row token Waiting e = refl
goes_on row token (Memory left) e = e
goes_on row token (Computation left) e = e

run_how : (clock : ℕ) (row : Row) (token : Bool) (job : Job) (done : Bool) → finishes row token job.standing ≡ done
    → Ticks clock job (pick done (finished clock job) (stand_as job (steps row token job.standing)))
run_how clock row token job true e =
    inl (record { live = not-true _ ((and-eq-true_iff _ _).0 e).0; absent = refl; ever = refl; last = refl; worst = refl; completed = refl })
run_how clock row token job false e = inr (standing_as job _ (goes_on row token job.standing e))

pub run_row : (has : ℕ → Bool) (s : State) (i : ℕ) → i < most_rows → Ticks s.clock (job_at s i) (job_at (ran_by has s) i)
unfolding job_run_by completes_by
run_row has s i l =
    subst (Ticks s.clock (job_at s i)) (sym (ran_job has s i l)) (run_how s.clock (row_at s i) (has i) (job_at s i) (completes_by has s i) refl)

-- A whole tick.
through : (clock : ℕ) (a b c : Job) → Continues a b → Ticks clock b c → Ticks clock a c
through clock a b c k (inl x) =
    inl (record {
      live = sym k.absent ∙ x.live;
      absent = x.absent;
      ever = x.ever ∙ k.ever;
      last = x.last ∙ k.last;
      worst = x.worst ∙ ap₂ (λ (m n : ℕ). max m (clock + 1 - n)) k.worst k.last;
      completed = x.completed ∙ ap (λ (n : ℕ). n + 1) k.completed;
    })
through clock a b c k (inr x) =
    inr (record {
      absent = x.absent ∙ k.absent;
      ever = x.ever ∙ k.ever;
      last = x.last ∙ k.last;
      worst = x.worst ∙ k.worst;
      completed = x.completed ∙ k.completed;
    })

pub tick_row : (has : ℕ → Bool) (s : State) → Shaped s → (i : ℕ) → i < s.set.count → Ticks s.clock (job_at s i) (job_at (ran_by has (taken s)) i)
tick_row has s f i l =
    let t = taken s in
    through s.clock (job_at s i) (job_at t i) (job_at (ran_by has t) i) (carried s f i l)
    (subst (λ (c : ℕ). Ticks c (job_at t i) (job_at (ran_by has t) i)) (taken_clock s) (run_row has t i (below_most s f i l)))

-- A row that was ever released, by the number of its jobs.
pub ever : {clock : ℕ} {row : Row} {held : Bool} {job : Job} → Kept clock row held job → 1 ≤ job.completed + live_jobs job.standing → job.ever ≡ true
ever {job = job} k h = go job.ever refl
  where
    go : (b : Bool) → job.ever ≡ b → job.ever ≡ true
    go true e = e
    go false e = absurd (omega (arith, h, ap (λ (j : Job). j.completed + live_jobs j.standing) (k.never e)))

-- A live job has work left.
live_work : (row : Row) (held : Bool) (st : Standing) → 1 ≤ length_of row → Stands row held st → is_absent st ≡ false → 1 ≤ work_left row st
live_work row held Absent e h l = true_not_false _ refl l
live_work row held Waiting e h l = e
live_work row held (Memory left) e h l = omega (arith, h)
live_work row held (Computation left) e h l = omega (arith, h)

pub live_left : (s : State) → Shaped s → (i : ℕ) → i < s.set.count → is_absent (standing_at s i) ≡ false → 1 ≤ work_left (row_at s i) (standing_at s i)
live_left s f i l h = live_work (row_at s i) (in_hand s i) (standing_at s i) ((set_well_formed s f).row i l).length_some (f.row i l).standing h
