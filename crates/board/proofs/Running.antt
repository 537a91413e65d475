-- Rules 2 to 5: what becomes of a row that rests, works or stands, and that they keep the shape.
use mathlib.Core.Path.{◌≡◌, refl, sym, ap, subst, subst₂, ◌∙◌}
use mathlib.Core.Bool.{Bool, true, false, not}
use Prim.Native.Nat.{ℕ, ◌+◌, ◌-◌, ◌≤◌, ◌<◌}
use native.Mathlib.Omega.{arith}
use native.Mathlib.Decide.{dec_lt, ℕ_discrete}
use lib.Dec.{eqb}
use borrow.Author.Tests.{eqb-true, eqb-false, eq-eqb, ne_eqb}
use Rattle.std.specs.Prelude.{Option, Some, None}
use Rattle.laws.specs.Choice.{pick}
use Rattle.laws.specs.ChoiceLaws.{true_not_false}
use Rattle.laws.specs.Search.{first}
use Rattle.laws.specs.SearchLaws.{first_is, IsFirst}
use Rattle.sheet.specs.Ranges.{most_processors, most_rows, computation_of, WellFormed}
use Rattle.sheet.specs.declared.Row.{Row}
use Rattle.board.specs.declared.Job.{Job}
use Rattle.board.specs.declared.State.{State}
use Rattle.board.specs.declared.Standing.{Standing}
use Rattle.board.specs.declared.Standing.TheVariants.{Absent, Waiting, Memory, Computation}
use Rattle.board.specs.States.{most_clock, no_job, row_at, job_at, hand_at, processor_at, standing_at, is_absent, is_memory, holds, in_hand}
use Rattle.board.specs.Rules.{stand_as, in_memory, token_at, has_token, computes, steps, finishes, finished, completes_by, job_run_by, frees_by, ran_by}
use Rattle.board.specs.Work.{work_left, memory_left, live_jobs}
use Rattle.board.proofs.ShapeFacts.{Stands, Kept, OwnHand, Shaped, set_well_formed, absent_facts}
use Rattle.board.proofs.Pointwise.{ran_job, ran_hand}
use Rattle.board.proofs.Taking.{held_is, processor_most}

-- A standing one step on. It rests where it isn't in hand,
pub record Rests (row : Row) (token held : Bool) (before after : Standing) : Type 0 where
  pub not_held : held ≡ false
  pub same : after ≡ before
  pub goes_on : finishes row token before ≡ false

-- it stands in memory without the token,
pub record Stalls (row : Row) (token held : Bool) (before after : Standing) : Type 0 where
  pub in_hand : held ≡ true
  pub in_memory : is_memory before ≡ true
  pub no_token : token ≡ false
  pub same : after ≡ before
  pub goes_on : finishes row token before ≡ false

-- or it works: one tick less is left, of memory first; with none left it is absent.
pub record Works (row : Row) (token held : Bool) (before after : Standing) : Type 0 where
  pub in_hand : held ≡ true
  pub live : is_absent before ≡ false
  pub with_token : is_memory before ≡ true → token ≡ true
  pub work : work_left row before ≡ work_left row after + 1
  pub memory : memory_left row after ≡ memory_left row before - 1
  pub done : finishes row token before ≡ is_absent after
  pub stands : Stands row (not (is_absent after)) after

pub data StepHow (row : Row) (token held : Bool) (before after : Standing) : Type 0 where
  rests : Rests row token held before after → StepHow row token held before after
  stalls : Stalls row token held before after → StepHow row token held before after
  works : Works row token held before after → StepHow row token held before after

record Enters (row : Row) (left : ℕ) (st : Standing) : Type 0 where
  work : work_left row st ≡ left
  memory : memory_left row st ≡ 0
  stands : Stands row (not (is_absent st)) st

computes_how : (row : Row) (left : ℕ) → left ≤ computation_of row → Enters row left (computes left)
computes_how row left h = go (eqb left 0) refl
  where
    go : (b : Bool) → eqb left 0 ≡ b → Enters row left (pick b Absent (Computation left))
    go true e = record { work = sym (eqb-true left 0 e); memory = refl; stands = refl }
    go false e = record { work = refl; memory = refl; stands = (refl, omega (arith, eqb-false left 0 e), h) }

pub step_how : (row : Row) (token held : Bool) (st : Standing) → Stands row held st → StepHow row token held st (steps row token st)
step_how row token held Absent h = rests (record { not_held = h; same = refl; goes_on = refl })
step_how row token held Waiting h = rests (record { not_held = h; same = refl; goes_on = refl })
step_how row token held (Computation left) h =
    let c = computes_how row (left - 1) (omega (arith, h)) in
    works (record {
      in_hand = h.0;
      live = refl;
      with_token = λ z. true_not_false _ z refl;
      work = omega (arith, c.work, h);
      memory = c.memory;
      done = refl;
      stands = c.stands;
    })
step_how row false held (Memory left) h = stalls (record { in_hand = h.0; in_memory = refl; no_token = refl; same = refl; goes_on = refl })
step_how row true held (Memory left) h = go (eqb (left - 1) 0) refl
  where
    go : (b : Bool) → eqb (left - 1) 0 ≡ b → StepHow row true held (Memory left) (steps row true (Memory left))
    go true e =
        let c = computes_how row (computation_of row) (omega arith) in
        let q = eqb-true (left - 1) 0 e in
        works (record {
          in_hand = h.0;
          live = refl;
          with_token = λ z. refl;
          work = rw e (omega (arith, c.work, q, h));
          memory = rw e (omega (arith, c.memory, q));
          done = refl;
          stands = rw e c.stands;
        })
    go false e =
        works (record {
          in_hand = h.0;
          live = refl;
          with_token = λ z. refl;
          work = rw e (omega (arith, h));
          memory = rw e;
          done = refl;
          stands = rw e (refl, omega (arith, eqb-false (left - 1) 0 e), omega (arith, h));
        })

-- A job at the standing that it has is that job.
stand_same : (job : Job) (st : Standing) → st ≡ job.standing → stand_as job st ≡ job
stand_same job st e = λ j. record { ever = job.ever; last = job.last; standing = e j; worst = job.worst; completed = job.completed }

later : (clock : ℕ) (row : Row) (held : Bool) (job : Job) → Kept clock row held job → Kept (clock + 1) row held job
later clock row held job k =
    record {
      last = omega (arith, k.last);
      worst = omega (arith, k.worst);
      completed = omega (arith, k.completed);
      never = k.never;
      standing = k.standing;
    }

-- A job never released has nothing to do.
never_live : (clock : ℕ) (row : Row) (held : Bool) (job : Job) → Kept clock row held job → is_absent job.standing ≡ false → job.ever ≡ false → ⊥
never_live clock row held job k h e = true_not_false _ (ap (λ (j : Job). is_absent j.standing) (k.never e)) h

-- The job that rules 3 and 4 make of a row's job, and whether it is still in hand.
abbrev gone_on : (clock : ℕ) (row : Row) (token done : Bool) (job : Job) → Job
gone_on clock row token done job = pick done (finished clock job) (stand_as job (steps row token job.standing))

kept_on : (clock : ℕ) (row : Row) (token held : Bool) (job : Job) → Kept clock row held job
    → Kept (clock + 1) row (pick (finishes row token job.standing) false held) (gone_on clock row token (finishes row token job.standing) job)
kept_on clock row token held job k = go (step_how row token held job.standing k.standing)
  where
    done : Bool
    done = finishes row token job.standing

    same : steps row token job.standing ≡ job.standing → done ≡ false → Kept (clock + 1) row (pick done false held) (gone_on clock row token done job)
    same e d = rw (d, stand_same job _ e) (later clock row held job k)

    worked : (w : Works row token held job.standing (steps row token job.standing)) → (b : Bool) → is_absent (steps row token job.standing) ≡ b
        → Kept (clock + 1) row (pick done false held) (gone_on clock row token done job)
    worked w true e =
        rw (w.done ∙ e)
        (record {
          last = omega (arith, k.last);
          worst = omega (arith, k.worst);
          completed = omega (arith, k.completed);
          never = λ z. absurd (never_live clock row held job k w.live z);
          standing = refl;
        })
    worked w false e =
        rw (w.done ∙ e, w.in_hand)
        (record {
          last = omega (arith, k.last);
          worst = omega (arith, k.worst);
          completed = omega (arith, k.completed);
          never = λ z. absurd (never_live clock row held job k w.live z);
          standing = subst (λ (b : Bool). Stands row (not b) (steps row token job.standing)) e w.stands;
        })

    go : StepHow row token held job.standing (steps row token job.standing) → Kept (clock + 1) row (pick done false held) (gone_on clock row token done job)
    go (rests r) = same r.same r.goes_on
    go (stalls r) = same r.same r.goes_on
    go (works w) = worked w (is_absent (steps row token job.standing)) refl

-- Rules 3 to 5, whichever rows have the token.
module _ (has : ℕ → Bool) (s : State) (f : Shaped s) where
  w : WellFormed s.set
  w = set_well_formed s f

  -- A row is in hand after the tick if it was and has not completed.
  held_after : (i : ℕ) → holds (frees_by has s (hand_at s (processor_at s i))) i ≡ pick (completes_by has s i) false (in_hand s i)
  unfolding frees_by
  held_after i = go (hand_at s (processor_at s i))
    where
      none : (b : Bool) → false ≡ pick b false false
      none true = refl
      none false = refl

      mine : (b : Bool) → holds (pick b None (Some i)) i ≡ pick b false (eqb i i)
      mine true = refl
      mine false = refl

      other : (k : ℕ) → eqb k i ≡ false → (b c : Bool) → holds (pick b None (Some k)) i ≡ pick c false (eqb k i)
      other k e true true = refl
      other k e true false = sym e
      other k e false true = e
      other k e false false = refl

      go : (h : Option ℕ) → holds (frees_by has s h) i ≡ pick (completes_by has s i) false (holds h i)
      go None = none (completes_by has s i)
      go (Some k) = at (ℕ_discrete k i)
        where
          at : Dec (k ≡ i) → holds (pick (completes_by has s k) None (Some k)) i ≡ pick (completes_by has s i) false (eqb k i)
          at (yes d) = rw d (mine (completes_by has s i))
          at (no d) = other k (ne_eqb k i d) (completes_by has s k) (completes_by has s i)

  kept_ran : (i : ℕ) → i < s.set.count → Kept (s.clock + 1) (row_at s i) (holds (frees_by has s (hand_at s (processor_at s i))) i) (job_run_by has s i)
  unfolding job_run_by completes_by
  kept_ran i l = rw (held_after i) (kept_on s.clock (row_at s i) (has i) (in_hand s i) (job_at s i) (f.row i l))

  hand_ran : (p : ℕ) → p < most_processors → OwnHand s.set p (frees_by has s (hand_at s p))
  unfolding frees_by
  hand_ran p l = go (hand_at s p) (f.hand p l)
    where
      at : (i : ℕ) → OwnHand s.set p (Some i) → (b : Bool) → OwnHand s.set p (pick b None (Some i))
      at i o true = tt
      at i o false = o

      go : (h : Option ℕ) → OwnHand s.set p h → OwnHand s.set p (frees_by has s h)
      go None o = tt
      go (Some i) o = at i o (completes_by has s i)

  past_ran : (i : ℕ) → s.set.count ≤ i → i < most_rows → job_run_by has s i ≡ no_job
  unfolding job_run_by completes_by
  past_ran i l g = ap (λ (j : Job). gone_on s.clock (row_at s i) (has i) (finishes (row_at s i) (has i) j.standing) j) (f.past i l g).1

  -- Rules 2 to 5 keep the shape.
  pub run_keeps : s.clock < most_clock → Shaped (ran_by has s)
  unfolding ran_by
  run_keeps c =
      record {
        set = f.set;
        clock = omega (arith, c);
        row = λ i l.
            subst₂ (λ (h : Option ℕ) (j : Job). Kept (s.clock + 1) (row_at s i) (holds h i) j)
            (sym (ran_hand has s (processor_at s i) (processor_most s f i l))) (sym (ran_job has s i (omega (arith, l, w.rows_most)))) (kept_ran i l);
        past = λ i l g. ((f.past i l g).0, ran_job has s i g ∙ past_ran i l g);
        hand = λ p l. subst (OwnHand s.set p) (sym (ran_hand has s p l)) (hand_ran p l);
      }

module _ (s : State) (f : Shaped s) where
  -- A row that stands without the token: it is with a row of a higher-ranked processor, which is in memory.
  pub record TokenOver (i : ℕ) : Type 0 where
    pub other : ℕ
    pub below : other < s.set.count
    pub over : processor_at s other < processor_at s i
    pub in_memory : is_memory (standing_at s other) ≡ true
    pub token : has_token s other ≡ true

  in_hand_is : (i : ℕ) → i < s.set.count → is_memory (standing_at s i) ≡ true → hand_at s (processor_at s i) ≡ Some i
  in_hand_is i l m = held_is _ i (go (standing_at s i) m (f.row i l).standing)
    where
      go : (st : Standing) → is_memory st ≡ true → Stands (row_at s i) (in_hand s i) st → in_hand s i ≡ true
      go Absent z o = true_not_false _ z refl
      go Waiting z o = true_not_false _ z refl
      go (Memory left) z o = o.0
      go (Computation left) z o = true_not_false _ z refl

  memory_held : (p : ℕ) → in_memory s (hand_at s p) ≡ true → (k : ℕ) × (hand_at s p ≡ Some k) × (is_memory (standing_at s k) ≡ true)
  unfolding in_memory
  memory_held p h = go (hand_at s p) refl h
    where
      go : (x : Option ℕ) → hand_at s p ≡ x → in_memory s x ≡ true → (k : ℕ) × (hand_at s p ≡ Some k) × (is_memory (standing_at s k) ≡ true)
      go None e z = true_not_false _ z refl
      go (Some k) e z = (k, e, z)

  pub token_over : (i : ℕ) → i < s.set.count → is_memory (standing_at s i) ≡ true → has_token s i ≡ false → TokenOver i
  unfolding has_token token_at in_memory
  token_over i l m t = go (first most_processors here) refl (first_is most_processors here)
    where
      here : ℕ → Bool
      here p = in_memory s (hand_at s p)

      p : ℕ
      p = processor_at s i

      mine : here p ≡ true
      mine = ap (in_memory s) (in_hand_is i l m) ∙ m

      go : (q : ℕ) → first most_processors here ≡ q → IsFirst here 0 most_processors q → TokenOver i
      go q e r = at (dec_lt p q) (ℕ_discrete p q)
        where
          above : q < p → TokenOver i
          above h =
              let k = memory_held q (r.passes (omega (arith, h, processor_most s f i l))) in
              let o : OwnHand s.set q (Some k.0) = subst (OwnHand s.set q) k.1 (f.hand q (omega (arith, h, processor_most s f i l))) in
              record { other = k.0; below = o.0; over = omega (arith, h, o.1); in_memory = k.2; token = eq-eqb _ _ (o.1 ∙ sym e) }

          at : Dec (p < q) → Dec (p ≡ q) → TokenOver i
          at (yes h) d = true_not_false _ mine (r.none p (omega arith) h)
          at (no h) (yes d) = true_not_false _ (eq-eqb _ _ (d ∙ sym e)) t
          at (no h) (no d) = above (omega arith)

pub live_one : (st : Standing) → is_absent st ≡ false → live_jobs st ≡ 1
live_one Absent h = true_not_false _ refl h
live_one Waiting h = refl
live_one (Memory left) h = refl
live_one (Computation left) h = refl

-- What rules 3 and 4 leave of a job: the standing one step on, the release, and the number of jobs released so far.
pub record GoesOn (row : Row) (token : Bool) (job next : Job) : Type 0 where
  pub standing : next.standing ≡ steps row token job.standing
  pub last : next.last ≡ job.last
  pub released : next.completed + live_jobs next.standing ≡ job.completed + live_jobs job.standing

goes_on_how : (clock : ℕ) (row : Row) (token held : Bool) (job : Job) → Stands row held job.standing
    → GoesOn row token job (gone_on clock row token (finishes row token job.standing) job)
goes_on_how clock row token held job h = go (finishes row token job.standing) refl (step_how row token held job.standing h)
  where
    st : Standing
    st = steps row token job.standing

    going : (d : Bool) → finishes row token job.standing ≡ d → d ≡ false → live_jobs st ≡ live_jobs job.standing → GoesOn row token job (gone_on clock row token d job)
    going d e z l = rw z (record { standing = refl; last = refl; released = omega (arith, l) })

    over : (d : Bool) → d ≡ true → is_absent job.standing ≡ false → is_absent st ≡ true → GoesOn row token job (gone_on clock row token d job)
    over d z a b = rw z (record { standing = sym (absent_facts st b); last = refl; released = omega (arith, live_one job.standing a) })

    worked : (d : Bool) → finishes row token job.standing ≡ d → Works row token held job.standing st → (b : Bool) → is_absent st ≡ b → GoesOn row token job (gone_on clock row token d job)
    worked d e w true z = over d (sym e ∙ w.done ∙ z) w.live z
    worked d e w false z = going d e (sym e ∙ w.done ∙ z) (live_one st z ∙ sym (live_one job.standing w.live))

    go : (d : Bool) → finishes row token job.standing ≡ d → StepHow row token held job.standing st → GoesOn row token job (gone_on clock row token d job)
    go d e (rests r) = going d e (sym e ∙ r.goes_on) (ap live_jobs r.same)
    go d e (stalls r) = going d e (sym e ∙ r.goes_on) (ap live_jobs r.same)
    go d e (works w) = worked d e w (is_absent st) refl

-- So do rules 3 and 4 with each row, whichever rows have the token.
module _ (has : ℕ → Bool) (s : State) (f : Shaped s) (i : ℕ) (l : i < s.set.count) where
  pub row_goes_on : GoesOn (row_at s i) (has i) (job_at s i) (job_at (ran_by has s) i)
  unfolding job_run_by completes_by
  row_goes_on =
      subst (GoesOn (row_at s i) (has i) (job_at s i)) (sym (ran_job has s i (omega (arith, l, (set_well_formed s f).rows_most))))
      (goes_on_how s.clock (row_at s i) (has i) (in_hand s i) (job_at s i) (f.row i l).standing)

  pub row_steps : StepHow (row_at s i) (has i) (in_hand s i) (standing_at s i) (steps (row_at s i) (has i) (standing_at s i))
  row_steps = step_how (row_at s i) (has i) (in_hand s i) (standing_at s i) (f.row i l).standing
