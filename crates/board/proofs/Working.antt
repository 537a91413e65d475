-- What a tick does to work: a row's work grows by one exactly if its job works after rule 1, and a processor with a job in hand
-- works or stands while a higher-ranked one does a memory tick.
use mathlib.Core.Path.{◌≡◌, refl, sym, ap, ap₂, subst, ◌∙◌}
use mathlib.Core.Bool.{Bool, true, false}
use mathlib.Core.Logic.{◌⊎◌, inl, inr}
use Prim.Native.Nat.{ℕ, ◌+◌, ◌-◌, ◌*◌, ◌≤◌, ◌<◌}
use native.Mathlib.Nat.{mul-le-mul_left}
use native.Mathlib.Omega.{arith}
use lib.Dec.{eqb}
use borrow.Author.Tests.{eqb-true}
use Rattle.std.specs.Prelude.{Some}
use Rattle.laws.specs.Choice.{pick}
use Rattle.laws.specs.ChoiceLaws.{true_not_false}
use Rattle.laws.specs.Words.{bit}
use Rattle.sheet.specs.Ranges.{most_processors, memory_of, computation_of, length_of}
use Rattle.sheet.specs.declared.Row.{Row}
use Rattle.sheet.specs.declared.Set.{Set}
use Rattle.board.specs.declared.Job.{Job}
use Rattle.board.specs.declared.State.{State}
use Rattle.board.specs.declared.Standing.{Standing}
use Rattle.board.specs.declared.Standing.TheVariants.{Absent, Waiting, Memory, Computation}
use Rattle.board.specs.States.{row_at, job_at, hand_at, standing_at, is_memory, in_hand}
use Rattle.board.specs.Rules.{begins, job_taken, taken, has_token, steps, ran_by}
use Rattle.board.specs.Calls.{tick_number, tick_of}
use Rattle.board.specs.Work.{work_left, memory_left, live_jobs, work_done, is_working, works_by, works}
use Rattle.board.proofs.ShapeFacts.{Stands, OwnHand, Shaped, set_well_formed}
use Rattle.board.proofs.Pointwise.{taken_job, taken_set}
use Rattle.board.proofs.Taking.{AsWas, Begins, row_how, take_keeps, is_held}
use Rattle.board.proofs.Running as running
use Rattle.board.proofs.Kept.{may_tick, tick_accepted, tick_state}

-- What is left is at most what there is to do, of a live job alone.
left_most : (row : Row) (held : Bool) (st : Standing) → Stands row held st → work_left row st ≤ length_of row * live_jobs st
left_most row held Absent h = omega arith
left_most row held Waiting h = omega arith
left_most row held (Memory left) h = omega (arith, h)
left_most row held (Computation left) h = omega (arith, h)

-- A job that is taken keeps its numbers.
pub record Begun (row : Row) (st : Standing) : Type 0 where
  pub work : work_left row st ≡ length_of row
  pub memory : memory_left row st ≡ memory_of row
  pub live : live_jobs st ≡ 1

pub begun : (row : Row) → Begun row (begins row Waiting)
begun row = go (eqb (memory_of row) 0) refl
  where
    go : (b : Bool) → eqb (memory_of row) 0 ≡ b → Begun row (pick b (Computation (computation_of row)) (Memory (memory_of row)))
    go true e = let z = eqb-true (memory_of row) 0 e in record { work = omega arith; memory = sym z; live = refl }
    go false e = record { work = refl; memory = refl; live = refl }

-- Rule 1 does no work.
taking_no_work : (s : State) → Shaped s → (i : ℕ) → i < s.set.count → work_done (taken s) i ≡ work_done s i
unfolding work_done taken
taking_no_work s f i l = go (row_how s f i l)
  where
    e : job_at (taken s) i ≡ job_taken s i
    e = taken_job s i (omega (arith, l, (set_well_formed s f).rows_most))

    done : Job → ℕ
    done j = length_of (row_at s i) * (j.completed + live_jobs j.standing) - work_left (row_at s i) j.standing

    go : AsWas s i ⊎ Begins s i → done (job_at (taken s) i) ≡ done (job_at s i)
    go (inl a) = ap done (e ∙ a.job)
    go (inr b) =
        let g = begun (row_at s i) in
        ap done (e ∙ b.job)
        ∙ ap₂ (λ (x y : ℕ). length_of (row_at s i) * ((job_at s i).completed + x) - y) (g.live ∙ sym (ap live_jobs b.waited)) (g.work ∙ sym (ap (work_left (row_at s i)) b.waited))

-- Whether a job works, by how it steps.
resting : (row : Row) (token : Bool) (st : Standing) → Stands row false st → is_working token st ≡ false
resting row token Absent h = refl
resting row token Waiting h = refl
resting row token (Memory left) h = true_not_false _ h.0 refl
resting row token (Computation left) h = true_not_false _ h.0 refl

stalled : (token : Bool) (st : Standing) → is_memory st ≡ true → is_working token st ≡ token
stalled token Absent h = true_not_false _ h refl
stalled token Waiting h = true_not_false _ h refl
stalled token (Memory left) h = refl
stalled token (Computation left) h = true_not_false _ h refl

worked : (row : Row) (token : Bool) (st : Standing) → Stands row true st → (is_memory st ≡ true → token ≡ true) → is_working token st ≡ true
worked row token Absent h t = true_not_false _ refl h
worked row token Waiting h t = true_not_false _ refl h
worked row token (Memory left) h t = t refl
worked row token (Computation left) h t = refl

grows : (e r l l' b : ℕ) → l ≡ l' + b → l ≤ e * r → e * r - l' ≡ (e * r - l) + b
grows e r l l' b h g = omega arith

-- Rules 3 to 5 do a tick of it for each job that works.
running_works : (has : ℕ → Bool) (s : State) → Shaped s → (i : ℕ) → i < s.set.count → work_done (ran_by has s) i ≡ work_done s i + bit (works_by has s i)
unfolding work_done works_by ran_by
running_works has s f i l = go (running.row_steps has s f i l)
  where
    row : Row
    row = row_at s i

    st : Standing
    st = standing_at s i

    g : running.GoesOn row (has i) (job_at s i) (job_at (ran_by has s) i)
    g = running.row_goes_on has s f i l

    most : work_left row st ≤ length_of row * ((job_at s i).completed + live_jobs st)
    most = omega (arith, left_most row (in_hand s i) st (f.row i l).standing, mul-le-mul_left (length_of row) (more (job_at s i).completed (live_jobs st)))
      where
        more : (a b : ℕ) → b ≤ a + b
        more a b = omega arith

    by : (b : ℕ) → work_left row st ≡ work_left row (steps row (has i) st) + b
        → length_of row * ((job_at (ran_by has s) i).completed + live_jobs (standing_at (ran_by has s) i)) - work_left row (standing_at (ran_by has s) i)
        ≡ (length_of row * ((job_at s i).completed + live_jobs st) - work_left row st) + b
    by b h =
        ap₂ (λ (r l : ℕ). length_of row * r - l) g.released (ap (work_left row) g.standing)
        ∙ grows (length_of row) ((job_at s i).completed + live_jobs st) (work_left row st) _ b h most

    same : (b : Bool) → is_working (has i) st ≡ b → work_left row st ≡ work_left row (steps row (has i) st) + bit b → work_done (ran_by has s) i ≡ work_done s i + bit (works_by has s i)
    same b e h = by (bit b) h ∙ ap (λ (x : Bool). (length_of row * ((job_at s i).completed + live_jobs st) - work_left row st) + bit x) (sym e)

    held : (b : Bool) → in_hand s i ≡ b → Stands row b st
    held b e = subst (λ (h : Bool). Stands row h st) e (f.row i l).standing

    go : running.StepHow row (has i) (in_hand s i) st (steps row (has i) st) → work_done (ran_by has s) i ≡ work_done s i + bit (works_by has s i)
    go (running.rests r) = same false (resting row (has i) st (held false r.not_held)) (omega (arith, ap (work_left row) r.same))
    go (running.stalls r) = same false (stalled (has i) st r.in_memory ∙ r.no_token) (omega (arith, ap (work_left row) r.same))
    go (running.works r) = same true (worked row (has i) st (held true r.in_hand) r.with_token) r.work

-- An accepted tick.
pub tick_works : (s : State) → tick_number s ≡ 0 → (i : ℕ) → i < s.set.count → work_done (tick_of s).state i ≡ work_done s i + bit (works (taken s) i)
tick_works s h i l =
    let m = may_tick s h in
    rw (tick_accepted s h, tick_state s)
    (running_works (has_token (taken s)) (taken s) (take_keeps s m.shape) i (subst (λ (x : Set). i < x.count) (sym (taken_set s)) l)
    ∙ ap (λ (x : ℕ). x + bit (works (taken s) i)) (taking_no_work s m.shape i l))

-- A processor with a job in hand works, or a row of a higher-ranked processor does a memory tick.
pub works_or_stands : (s : State) → (f : Shaped s) → (p i : ℕ) → p < most_processors → hand_at s p ≡ Some i → (works s i ≡ true) ⊎ running.TokenOver s f i
unfolding works_by
works_or_stands s f p i l e = go (running.row_steps (has_token s) s f i own.0)
  where
    own : OwnHand s.set p (Some i)
    own = subst (OwnHand s.set p) e (f.hand p l)

    held : in_hand s i ≡ true
    held = is_held _ i (ap (λ (q : ℕ). hand_at s q) own.1 ∙ e)

    go : running.StepHow (row_at s i) (has_token s i) (in_hand s i) (standing_at s i) (steps (row_at s i) (has_token s i) (standing_at s i)) → (is_working (has_token s i) (standing_at s i) ≡ true) ⊎ running.TokenOver s f i
    go (running.rests r) = true_not_false _ held r.not_held
    go (running.stalls r) = inr (running.token_over s f i own.0 r.in_memory r.no_token)
    go (running.works r) = inl (worked (row_at s i) (has_token s i) (standing_at s i) (subst (λ (h : Bool). Stands (row_at s i) h (standing_at s i)) held (f.row i own.0).standing) r.with_token)

-- The row with the token works.
pub token_works : (s : State) (f : Shaped s) (i : ℕ) → (o : running.TokenOver s f i) → works s o.other ≡ true
unfolding works_by
token_works s f i o = stalled (has_token s o.other) (standing_at s o.other) o.in_memory ∙ o.token
