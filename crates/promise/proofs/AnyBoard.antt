-- What follows for any board whose calls do what the rules say, once each live job is in time: no response is above the bound, each
-- released job is complete in time, and no release that isn't early finds a live job.
use mathlib.Core.Path.{◌≡◌, sym, ap, subst, ◌∙◌}
use mathlib.Core.Bool.{Bool, true, false}
use mathlib.Core.List.{List}
use mathlib.Core.Logic.{◌⊎◌, inl, inr}
use Prim.Native.Nat.{ℕ, ◌+◌, ◌≤◌, ◌<◌}
use native.Mathlib.Omega.{arith}
use Rattle.laws.specs.ChoiceLaws.{true_not_false}
use Rattle.sheet.specs.Refusals.{accepts}
use Rattle.sheet.specs.Ranges.{row_in}
use Rattle.sheet.specs.declared.Set.{Set}
use Rattle.board.specs.declared.Job.{Job}
use Rattle.board.specs.declared.State.{State}
use Rattle.board.specs.States.{no_job, row_at, job_at, standing_at, is_absent, start_set}
use Rattle.board.specs.Calls.{waiting_from, released}
use Rattle.board.specs.Work.{work_left}
use Rattle.board.proofs.ShapeFacts.{set_well_formed, below_most}
use Rattle.board.proofs.Pointwise.{start_job, released_job, released_clock}
use Rattle.board.proofs.Running.{live_one}
use Rattle.board.proofs.Kept.{MayRelease, FoundLive}
use Rattle.board.proofs.Jobs.{Ticks, ever, live_left}
use Rattle.runs.specs.Runs.{Call, release, Board, calls_on, ticks_on}
use Rattle.runs.proofs.Lists.{kept_by_calls}
use Rattle.runs.proofs.Calling.{accepted_release}
use Rattle.runs.proofs.OfSets.{OfSet, row_of_state, row_of_set}
use Rattle.runs.proofs.Rows.{RowHow, anew, ticked, as_was}
use Rattle.runs.proofs.Boards.{ByRules, clock_calls, row_call}
use Rattle.promise.specs.Promises.{RowInTime}

-- What is asked of a board over a set, with a bound for each row. `Good` is kept by every call, and a live job of a good state ends within
-- its bound.
pub record SoundBoard (b : Board) (set : Set) (bound : ℕ → ℕ) (Good : b.Whole → Type 0) : Type 0 where
  pub rules : ByRules b
  pub kept : (s : b.Whole) (c : Call) → Good s → Good (b.called s c)
  pub of_set : (s : b.Whole) → Good s → OfSet set (b.state s)
  pub live : (s : b.Whole) → Good s → (i : ℕ) → i < set.count → is_absent (standing_at (b.state s) i) ≡ false
      → (b.state s).clock + work_left (row_at (b.state s) i) (standing_at (b.state s) i) ≤ (job_at (b.state s) i).last + bound i
  pub deadline : (i : ℕ) → i < set.count → bound i ≤ (row_in set i).deadline

-- A released job stays as it is until it completes: c and t are the completed number and the clock at its release.
record Unfinished (c t : ℕ) (job : Job) : Type 0 where
  completed : job.completed ≡ c
  last : job.last ≡ t
  live : is_absent job.standing ≡ false

abbrev Pending : (c t : ℕ) → Job → Type 0
Pending c t job = (c < job.completed) ⊎ Unfinished c t job

pending_tick : (c t clock : ℕ) (job next : Job) → Ticks clock job next → Pending c t job → Pending c t next
pending_tick c t clock job next (inl x) (inl h) = inl (omega (arith, x.completed, h))
pending_tick c t clock job next (inr x) (inl h) = inl (omega (arith, x.completed, h))
pending_tick c t clock job next (inl x) (inr h) = inl (omega (arith, x.completed, h.completed))
pending_tick c t clock job next (inr x) (inr h) =
    inr (record { completed = x.completed ∙ h.completed; last = x.last ∙ h.last; live = x.absent ∙ h.live })

module _ (b : Board) (set : Set) (bound : ℕ → ℕ) (Good : b.Whole → Type 0) (sound : SoundBoard b set bound Good) where
  -- At least a tick of a live job is left.
  response_in_time : (s : b.Whole) → Good s → (i : ℕ) → i < set.count → is_absent (standing_at (b.state s) i) ≡ false
      → (b.state s).clock + 1 ≤ (job_at (b.state s) i).last + bound i
  response_in_time s g i l h =
      let o = sound.of_set s g in
      omega (arith, sound.live s g i l h, live_left (b.state s) o.shape i (row_of_state o i l) h)

  -- One row.
  module _ (i : ℕ) (l : i < set.count) where
    abbrev job : b.Whole → Job
    job s = job_at (b.state s) i

    abbrev How : b.Whole → Call → Bool → State → Type 0
    How s = RowHow (sound.rules.has s) (b.state s) i

    -- What each call keeps of the row's job, by what it does to it, lists of calls keep.
    job_calls : (P : Job → Type 0) → ((s : b.Whole) → Good s → (c : Call) (a : Bool) (t : State) → How s c a t → P (job s) → P (job_at t i))
        → (s : b.Whole) (cs : List Call) → Good s → P (job s) → Good (calls_on b s cs) × P (job (calls_on b s cs))
    job_calls P step s cs g p = kept_by_calls b (λ (s : b.Whole). Good s × P (job s)) call s cs (g, p)
      where
        call : (s : b.Whole) (c : Call) → Good s × P (job s) → Good (b.called s c) × P (job (b.called s c))
        call s c h =
            let o = sound.of_set s h.0 in
            (sound.kept s c h.0, step s h.0 c _ _ (row_call b sound.rules s o.shape i (row_of_state o i l) c) h.1)

    -- No response is above the bound.
    worst_tick : (s : b.Whole) (next : Job) → Good s → Ticks (b.state s).clock (job s) next → (job s).worst ≤ bound i → next.worst ≤ bound i
    worst_tick s next g (inl x) h = omega (arith, x.worst, h, response_in_time s g i l x.live)
    worst_tick s next g (inr x) h = omega (arith, x.worst, h)

    worst_call : (s : b.Whole) → Good s → (c : Call) (a : Bool) (t : State) → How s c a t → (job s).worst ≤ bound i → (job_at t i).worst ≤ bound i
    worst_call s g c a t (anew x) h = omega (arith, ap (λ (j : Job). j.worst) x.job, h)
    worst_call s g c a t (ticked x) h = worst_tick s _ g x.job h
    worst_call s g c a t (as_was x) h = omega (arith, ap (λ (j : Job). j.worst) x.job, h)

    pub row_in_time : (fresh : b.Whole) (cs : List Call) → Good fresh → b.state fresh ≡ start_set set → RowInTime (b.state (calls_on b fresh cs)) i (bound i)
    row_in_time fresh cs g e =
        let r = job_calls (λ (j : Job). j.worst ≤ bound i) worst_call fresh cs g (omega (arith, ap (λ (j : Job). j.worst) new)) in
        record {
          live = sound.live (calls_on b fresh cs) r.0 i l;
          worst = omega (arith, r.1);
          deadline = subst (λ (x : Set). bound i ≤ (row_in x i).deadline) (sym (sound.of_set (calls_on b fresh cs) r.0).over) (sound.deadline i l);
        }
      where
        o : OfSet set (b.state fresh)
        o = sound.of_set fresh g

        new : job fresh ≡ no_job
        new = ap (λ (x : State). job_at x i) e ∙ start_job set i (below_most (b.state fresh) o.shape i (row_of_state o i l))

    -- Until it completes, a released job is live.
    pending_call : (c t : ℕ) (s : b.Whole) → Good s → (a : Call) (y : Bool) (u : State) → How s a y u → Pending c t (job s) → Pending c t (job_at u i)
    pending_call c t s g a y u (anew x) (inl h) = inl (omega (arith, ap (λ (j : Job). j.completed) x.job, h))
    pending_call c t s g a y u (anew x) (inr h) = true_not_false _ (ap is_absent x.may.absent) h.live
    pending_call c t s g a y u (ticked x) h = pending_tick c t _ _ _ x.job h
    pending_call c t s g a y u (as_was x) h = rw x.job h

  -- Each released job is complete once as many ticks were accepted after its release as its bound.
  pub complete : (s : b.Whole) (i : ℕ) (after : List Call) → Good s → accepts (b.answered s (release i)) ≡ true
      → bound i ≤ ticks_on b (b.called s (release i)) after
      → (job_at (b.state s) i).completed < (job_at (b.state (calls_on b (b.called s (release i)) after)) i).completed
  complete s i after g a enough = go (job_calls i l (Pending c t) (pending_call i l c t) u after (sound.kept s (release i) g) (inr fresh))
    where
      c : ℕ
      c = (job_at (b.state s) i).completed

      t : ℕ
      t = (b.state s).clock

      u : b.Whole
      u = b.called s (release i)

      m : MayRelease (b.state s) i × (b.state u ≡ released (b.state s) i)
      m = accepted_release (sound.rules.how s (release i)) a

      l : i < set.count
      l = row_of_set (sound.of_set s g) i m.0.below

      new : job_at (b.state u) i ≡ waiting_from t (job_at (b.state s) i)
      new = ap (λ (x : State). job_at x i) m.1 ∙ released_job (b.state s) i (below_most (b.state s) m.0.shape i m.0.below)

      fresh : Unfinished c t (job_at (b.state u) i)
      fresh = record { completed = ap (λ (j : Job). j.completed) new; last = ap (λ (j : Job). j.last) new; live = ap (λ (j : Job). is_absent j.standing) new }

      go : Good (calls_on b u after) × Pending c t (job_at (b.state (calls_on b u after)) i) → c < (job_at (b.state (calls_on b u after)) i).completed
      go (q, (inl h)) = h
      go (q, (inr h)) =
          absurd (omega (arith, response_in_time (calls_on b u after) q i l h.live, h.last, clock_calls b sound.rules u after, ap (λ (x : State). x.clock) m.1, released_clock (b.state s) i, enough))

  -- A release that isn't early finds no live job.
  pub not_live : (s : b.Whole) (i : ℕ) → Good s → FoundLive (b.state s) i → ⊥
  not_live s i g f =
      let o = sound.of_set s g in
      let l = row_of_set o i f.below in
      let early = f.not_early (ever (f.shape.row i f.below) (omega (arith, live_one (standing_at (b.state s) i) f.live))) in
      let fits = ((set_well_formed (b.state s) f.shape).row i f.below).deadline_most in
      omega (arith, response_in_time s g i l f.live, early, fits, sound.deadline i l, ap (λ (x : Set). (row_in x i).deadline) o.over)
