-- The board's calls are steps of the theory: a release, and the two halves of a tick.
use mathlib.Core.Path.{◌≡◌, refl, sym, ap, ap₂, subst, ◌∙◌}
use mathlib.Core.Bool.{Bool, true, false}
use mathlib.Core.Logic.{◌⊎◌, inl, inr}
use Prim.Native.Nat.{ℕ, ◌+◌, ◌≤◌, ◌<◌}
use native.Mathlib.Omega.{arith}
use Rattle.std.specs.Prelude.{Option, Some, None}
use Rattle.laws.specs.ChoiceLaws.{true_not_false}
use Rattle.sheet.specs.Ranges.{most_processors, most_rows, row_in, WellFormed}
use Rattle.sheet.specs.declared.Row.{Row}
use Rattle.sheet.specs.declared.Set.{Set}
use Rattle.board.specs.declared.Job.{Job}
use Rattle.board.specs.declared.State.{State}
use Rattle.board.specs.declared.Standing.{Standing}
use Rattle.board.specs.declared.Standing.TheVariants.{Absent, Waiting, Memory, Computation}
use Rattle.board.specs.States.{row_at, job_at, hand_at, processor_at, standing_at, is_memory, holds, in_hand}
use Rattle.board.specs.Rules.{first_waiting, hand_taken, job_taken, taken, has_token, steps, ran}
use Rattle.board.specs.Calls.{waiting_from, released}
use Rattle.board.specs.Work.{work_left, memory_left, live_jobs}
use Rattle.board.proofs.ShapeFacts.{Stands, OwnHand, Shaped, set_well_formed, below_most}
use Rattle.board.proofs.Pointwise.{taken_job, taken_hand, taken_set, taken_clock, ran_set, ran_clock, released_job, released_other, released_set, released_clock}
use Rattle.board.proofs.Taking.{AsWas, Begins, row_how, HandHow, had, took, none, hand_how, first_before, take_keeps, processor_most, is_held}
use Rattle.board.proofs.Running.{StepHow, rests, stalls, works, token_over, row_goes_on, row_steps}
use Rattle.board.proofs.Kept.{MayRelease}
use Rattle.board.proofs.Jobs.{ever}
use Rattle.board.proofs.Working.{begun}
use Rattle.theory.specs.System.{System}
use Rattle.theory.specs.Steps as theory
use Rattle.promise.proofs.Observed.{system_of, left_in_hand, observed, none_in_hand, some_in_hand, all_in_hand, memory_some, memory_in_hand, begun_hand}

stands_at : (s : State) → Shaped s → (j : ℕ) → j < s.set.count → (b : Bool) → in_hand s j ≡ b → Stands (row_at s j) b (standing_at s j)
stands_at s f j l b e = subst (λ (h : Bool). Stands (row_at s j) h (standing_at s j)) e (f.row j l).standing

module _ (s : State) (f : Shaped s) (bound : ℕ → ℕ) where
  abbrev sys : System
  sys = system_of s.set bound

  w : WellFormed s.set
  w = set_well_formed s f

  -- A row whose job is the same is unchanged.
  same_job : (t : State) → t.set ≡ s.set → (k : ℕ) → job_at t k ≡ job_at s k → theory.Unchanged (observed s) (observed t) k
  unfolding observed
  same_job t e k j =
      record {
        released = ap (λ (x : Job). x.completed + live_jobs x.standing) j;
        last = ap (λ (x : Job). x.last) j;
        work_left = of_row work_left;
        memory_left = of_row memory_left;
        in_hand = of_row left_in_hand;
      }
    where
      of_row : (left : Row → Standing → ℕ) → left (row_at t k) (standing_at t k) ≡ left (row_at s k) (standing_at s k)
      of_row left = ap₂ (λ (x : Set) (y : Job). left (row_in x k) y.standing) e j

  -- A release.
  pub release_step : (i : ℕ) → MayRelease s i → theory.Releases sys i (observed s) (observed (released s i))
  unfolding system_of observed
  release_step i m =
      record {
        below = m.below;
        not_early = λ h. m.not_early (ever (f.row i m.below) h);
        not_live = ap (work_left (row_at s i)) m.absent;
        clock = released_clock s i;
        released = ap (λ (j : Job). j.completed + live_jobs j.standing) new ∙ omega (arith, ap live_jobs m.absent);
        last = ap (λ (j : Job). j.last) new;
        work_left = rw (released_set s i) (ap (λ (j : Job). work_left (row_at s i) j.standing) new);
        memory_left = rw (released_set s i) (ap (λ (j : Job). memory_left (row_at s i) j.standing) new);
        in_hand = rw (released_set s i) (ap (λ (j : Job). left_in_hand (row_at s i) j.standing) new);
        others = λ k l d. same_job (released s i) (released_set s i) k (released_other s i k (below_most s f k l) d);
      }
    where
      new : job_at (released s i) i ≡ waiting_from s.clock (job_at s i)
      new = released_job s i (below_most s f i m.below)

  -- Rule 1.
  job_taken_lem : (j : ℕ) → j < s.set.count → job_at (taken s) j ≡ job_taken s j
  job_taken_lem j l = taken_job s j (below_most s f j l)

  -- Where processor p has none in hand, none of its rows is,
  free_hand : (p : ℕ) → hand_at s p ≡ None → (k : ℕ) → processor_at s k ≡ p → in_hand s k ≡ false
  free_hand p e k q = ap (λ (p : ℕ). holds (hand_at s p) k) q ∙ ap (λ (h : Option ℕ). holds h k) e

  -- and a row before its first waiting one has nothing to do.
  idle_before : (p : ℕ) → hand_at s p ≡ None → (k : ℕ) → k < s.set.count → processor_at s k ≡ p → k < first_waiting s p → work_left (row_at s k) (standing_at s k) ≡ 0
  idle_before p e k l q h = go (standing_at s k) refl (stands_at s f k l false (free_hand p e k q))
    where
      go : (st : Standing) → standing_at s k ≡ st → Stands (row_at s k) false st → work_left (row_at s k) st ≡ 0
      go Absent d o = refl
      go Waiting d o = absurd (omega (arith, h, first_before s p k (below_most s f k l) d q))
      go (Memory left) d o = true_not_false _ o.0 refl
      go (Computation left) d o = true_not_false _ o.0 refl

  takes_row : (j : ℕ) → (l : j < s.set.count) → AsWas s j ⊎ Begins s j → theory.TakesRow sys (observed s) (observed (taken s)) j
  unfolding system_of observed
  takes_row j l (inl a) =
      let u = same_job (taken s) (taken_set s) j (job_taken_lem j l ∙ a.job) in
      record { released = u.released; last = u.last; work_left = u.work_left; memory_left = u.memory_left; hand = inl u.in_hand }
  takes_row j l (inr b) =
      let e = job_taken_lem j l ∙ b.job in
      let row = row_at s j in
      let g = begun row in
      record {
        released = ap (λ (x : Job). x.completed + live_jobs x.standing) e ∙ omega (arith, g.live, ap live_jobs b.waited);
        last = ap (λ (x : Job). x.last) e;
        work_left = rw (taken_set s) (ap (λ (x : Job). work_left row x.standing) e ∙ g.work ∙ sym (ap (work_left row) b.waited));
        memory_left = rw (taken_set s) (ap (λ (x : Job). memory_left row x.standing) e ∙ g.memory ∙ sym (ap (memory_left row) b.waited));
        hand = inr (record {
          live = rw b.waited (w.row j l).length_some;
          free = λ k q o. none_in_hand (row_at s k) (standing_at s k) (stands_at s f k q false (free_hand (processor_at s j) b.free k o));
          first = λ k h o. idle_before (processor_at s j) b.free k (omega (arith, h, l)) o (omega (arith, h, b.first));
          in_hand = rw (taken_set s) (ap (λ (x : Job). left_in_hand row x.standing) e ∙ begun_hand row ∙ sym (ap (work_left row) b.waited));
        });
      }

  -- A processor that has a live row has one in hand after rule 1.
  at_work : theory.AtWork sys (observed (taken s))
  unfolding system_of observed taken
  at_work j l live = go (hand_taken s p) (taken_hand s p p_most) (hand_how s p)
    where
      t : Shaped (taken s)
      t = take_keeps s f

      p : ℕ
      p = processor_at s j

      p_most : p < most_processors
      p_most = processor_most s f j l

      Goal : Type 0
      Goal = theory.Holder sys (observed (taken s)) p

      in_hand_lem : (k : ℕ) → hand_at (taken s) p ≡ Some k → Goal
      in_hand_lem k e =
          let o : OwnHand s.set p (Some k) = subst (OwnHand s.set p) e (t.hand p p_most) in
          let held : in_hand (taken s) k ≡ true = is_held _ k (ap (λ (q : ℕ). hand_at (taken s) q) o.1 ∙ e) in
          record { row = k; below = o.0; processor = o.1; held = some_in_hand (row_at s k) (standing_at (taken s) k) (stands_at (taken s) t k o.0 true held) }

      nothing : hand_at s p ≡ None → most_rows ≤ first_waiting s p → AsWas s j ⊎ Begins s j → ⊥
      nothing e h (inl a) =
          let z = idle_before p e j l refl (omega (arith, h, below_most s f j l)) in
          omega (arith, live, z, ap (λ (x : Job). work_left (row_at s j) x.standing) (job_taken_lem j l ∙ a.job))
      nothing e h (inr b) = omega (arith, h, b.first, below_most s f j l)

      go : (h : Option ℕ) → hand_at (taken s) p ≡ h → HandHow s p h → Goal
      go h e (had k q) = in_hand_lem k e
      go h e (took q g) = in_hand_lem (first_waiting s p) e
      go h e (none q g) = absurd (nothing q g (row_how s f j l))

  pub take_step : theory.Takes sys (observed s) (observed (taken s))
  unfolding system_of observed
  take_step = record { clock = taken_clock s; row = λ j l. takes_row j l (row_how s f j l); at_work = at_work }

  -- Rules 2 to 5.
  after : ℕ → Standing
  after j = steps (row_at s j) (has_token s j) (standing_at s j)

  standing_after : (j : ℕ) → j < s.set.count → standing_at (ran s) j ≡ after j
  unfolding after
  standing_after j l = (row_goes_on (has_token s) s f j l).standing

  moves_how : (j : ℕ) → (l : j < s.set.count) → StepHow (row_at s j) (has_token s j) (in_hand s j) (standing_at s j) (after j) → theory.Moves sys (observed s) (observed (ran s)) j
  unfolding system_of observed after
  moves_how j l (rests r) =
      let row = row_at s j in
      let e = standing_after j l ∙ r.same in
      let z = none_in_hand row (standing_at s j) (stands_at s f j l false r.not_held) in
      theory.rests (record {
        before = z;
        after = rw (ran_set (has_token s) s) (ap (left_in_hand row) e ∙ z);
        work_left = rw (ran_set (has_token s) s) (ap (work_left row) e);
        memory_left = rw (ran_set (has_token s) s) (ap (memory_left row) e);
      })
  moves_how j l (works r) =
      let row = row_at s j in
      let e = standing_after j l in
      theory.works (record {
        before = some_in_hand row (standing_at s j) (stands_at s f j l true r.in_hand);
        after = rw (ran_set (has_token s) s, e) (all_in_hand row (after j) r.stands);
        work_left = rw (ran_set (has_token s) s, e) r.work;
        memory_left = rw (ran_set (has_token s) s, e) r.memory;
      })
  moves_how j l (stalls r) =
      let row = row_at s j in
      let e = standing_after j l ∙ r.same in
      let o = token_over s f j l r.in_memory r.no_token in
      theory.stands (record {
        before = some_in_hand row (standing_at s j) (stands_at s f j l true r.in_hand);
        after = rw (ran_set (has_token s) s) (ap (left_in_hand row) e);
        in_memory = memory_some row _ (standing_at s j) (f.row j l).standing r.in_memory;
        work_left = rw (ran_set (has_token s) s) (ap (work_left row) e);
        memory_left = rw (ran_set (has_token s) s) (ap (memory_left row) e);
        other = o.other;
        below = o.below;
        over = o.over;
        token = fetched o.other o.below o.in_memory o.token (row_steps (has_token s) s f o.other o.below);
      })
    where
      -- The row that has the token loses a memory tick.
      fetched : (k : ℕ) → (l : k < s.set.count) → is_memory (standing_at s k) ≡ true → has_token s k ≡ true → StepHow (row_at s k) (has_token s k) (in_hand s k) (standing_at s k) (after k)
          → memory_left (row_at s k) (standing_at s k) ≡ memory_left (row_at (ran s) k) (standing_at (ran s) k) + 1
      fetched k l m t (works r) =
          rw (ran_set (has_token s) s, standing_after k l) (omega (arith, r.memory, memory_some (row_at s k) _ (standing_at s k) (f.row k l).standing m))
      fetched k l m t (stalls r) = true_not_false _ t r.no_token
      fetched k l m t (rests r) = true_not_false _ (memory_in_hand (row_at s k) _ (standing_at s k) (f.row k l).standing m) r.not_held

  pub run_step : theory.Runs sys (observed s) (observed (ran s))
  unfolding system_of observed after
  run_step =
      record {
        clock = ran_clock (has_token s) s;
        row = λ j l.
            record { released = (row_goes_on (has_token s) s f j l).released; last = (row_goes_on (has_token s) s f j l).last; moves = moves_how j l (row_steps (has_token s) s f j l) };
      }
