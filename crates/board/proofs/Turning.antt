-- One loop over the processors, highest rank first, has each take, gives the token, steps and completes: what it keeps true.
-- It does rule 1 and rules 2 to 5 in one, since a processor's taking reads no other processor. `from` is a processor that has the
-- token from before, 8 where there is none.
use Prim.Native.Nat.{ℕ, ◌+◌, ◌*◌, ◌^◌, ◌%◌, ◌≤◌, ◌<◌}
use mathlib.Core.Path.{◌≡◌, refl, sym, ap, ◌∙◌, subst}
use mathlib.Core.Bool.{Bool, true, false, not, ◌&&◌}
use mathlib.Core.List.{List}
use native.Mathlib.Omega.{arith}
use native.Mathlib.Decide.{dec_lt, ℕ_discrete}
use borrow.Author.Tests.{lt-ltb, le-ltb, eq-eqb, ne_eqb}
use lib.Bits.{bit_or}
use lib.ListN.{length, get_or, set, length-set}
use lib.Seq.{get_or-set_same, get_or-set_other}
use lib.Dec.{ltb, eqb}
use Rattle.std.specs.Prelude.{Option, Some, None, is_some, Ok}
use Rattle.laws.specs.Choice.{pick}
use Rattle.laws.specs.ChoiceLaws.{pick_true, pick_false, true_not_false}
use Rattle.laws.specs.TabulateLaws.{is_tab}
use Rattle.laws.specs.Words.{word, word_from}
use Rattle.laws.specs.BitLaws.{word_same, set_above}
use Rattle.sheet.specs.Ranges.{most_processors, most_rows}
use Rattle.sheet.specs.declared.Row.{Row}
use Rattle.sheet.specs.declared.Set.{Set}
use Rattle.sheet.proofs.Ranks.{processors_rise}
use Rattle.board.specs.declared.Job.{Job}
use Rattle.board.specs.declared.State.{State}
use Rattle.board.specs.declared.Turn.{Turn}
use Rattle.board.specs.declared.Ticked.{Ticked}
use Rattle.board.specs.declared.Standing.{Standing}
use Rattle.board.specs.States.{most_clock, no_job, row_at, job_at, hand_at, processor_at, standing_at, is_absent, is_memory, holds, in_hand}
use Rattle.board.specs.Rules.{stand_as, first_waiting, takes, hand_taken, begins, job_taken, taken, in_memory, token_at, token_named, has_token, steps, finishes, finished, completes_by, job_run_by, frees_by, ran_by, completed_rows_by}
use Rattle.board.specs.Calls.{ticked}
use Rattle.board.specs.Parts.{InTurn, token_in, turn_of}
use Rattle.board.proofs.Granting.{token_before, granted, may_have, token_most, token_starts, may_is, nobody_yet, token_next, token_ends}
use Rattle.board.proofs.Standings.{steps_any, no_hold, not_so}
use Rattle.board.proofs.ShapeFacts.{Stands, OwnHand, Shaped, set_well_formed, below_most, absent_facts}
use Rattle.board.proofs.Pointwise.{taken_hand, taken_job}
use Rattle.board.proofs.Taking.{take_keeps}
use Rattle.board.proofs.Rows.{job_after, on_board, not_in_hand, past_free}

-- One turn, where `has` says whether the processor has the token.
turn_has : (i : ℕ) (row : Row) (job : Job) (free has : Bool) (t : ℕ) → (is_memory (begins row job.standing) ≡ true → free ≡ has)
    → turn_of i row job free t
    ≡ record {
      job = job_after t row has job (begins row job.standing);
      hand = pick (finishes row has (begins row job.standing)) None (Some i);
      token = token_in row job free;
    }
unfolding turn_of
turn_has i row job free has t h =
    ap
    (λ (x : Standing). record {
      job = pick (not (is_absent (begins row job.standing)) && is_absent x) (finished t job) (stand_as job x);
      hand = pick (not (is_absent (begins row job.standing)) && is_absent x) None (Some i);
      token = token_in row job free;
    })
    (steps_any row (token_in row job free) has (begins row job.standing) (λ e. ap (λ (b : Bool). b && free) e ∙ h e))

same_ticked : (clock : ℕ) {a b : Set} {p q : List (Option ℕ)} {i j : List Job} {t v : Option ℕ} {w z : ℕ} → a ≡ b → p ≡ q → i ≡ j → t ≡ v → w ≡ z
    → ◌≡◌ {A = Ticked}
    (record { state = record { set = a; clock = clock; hands = p; jobs = i }; answer = Ok (record { token = t; completed = w }) })
    (record { state = record { set = b; clock = clock; hands = q; jobs = j }; answer = Ok (record { token = v; completed = z }) })
same_ticked clock e₁ e₂ e₃ e₄ e₅ = rw (e₁, e₂, e₃, e₄, e₅)

-- A number that names a processor, or none.
named_none : (n : ℕ) → n ≤ most_processors → (free : Bool) → is_some (token_named n) ≡ not free → free ≡ eqb n most_processors
named_none n l free = go (dec_lt n most_processors) free
  where
    go : Dec (n < most_processors) → (free : Bool) → is_some (token_named n) ≡ not free → free ≡ eqb n most_processors
    go (yes h) true e = true_not_false _ (ap is_some (pick_true (ltb n most_processors) (Some n) None (lt-ltb n most_processors h))) e
    go (yes h) false e = sym (ne_eqb n most_processors (λ z. omega (arith, z, h)))
    go (no h) true e = sym (eq-eqb n most_processors (omega (arith, l)))
    go (no h) false e = true_not_false _ e (ap is_some (pick_false (ltb n most_processors) (Some n) None (le-ltb n most_processors (omega arith))))

-- A hand that is none exactly if its row is done.
done_is : (done : Bool) (i : ℕ) (none : Bool) → is_some (pick done None (Some i)) ≡ not none → none ≡ done
done_is true i true e = refl
done_is true i false e = true_not_false true refl (sym e)
done_is false i true e = true_not_false true refl e
done_is false i false e = refl

-- A processor's place in the order, one further on.
next_other : (q p : ℕ) → (q ≡ p → ⊥) → ltb q (p + 1) ≡ ltb q p
next_other q p n = go (dec_lt q p)
  where
    go : Dec (q < p) → ltb q (p + 1) ≡ ltb q p
    go (yes l) = lt-ltb q (p + 1) (omega arith) ∙ sym (lt-ltb q p l)
    go (no l) = le-ltb q (p + 1) (omega (arith, n)) ∙ sym (le-ltb q p (omega arith))

-- A tick that finds the token with a processor from before, where it stays: `from` is that processor, 8 where there is none.
unfoldable pub token_from : ℕ → State → ℕ
token_from from s = pick (eqb from most_processors) (token_at s) from

unfoldable pub has_from : ℕ → State → ℕ → Bool
has_from from s i = eqb (processor_at s i) (token_from from s)

unfoldable pub ticked_from : ℕ → State → Ticked
ticked_from from s =
    let has = has_from from (taken s) in
    record {
      state = ran_by has (taken s);
      answer = Ok (record { token = token_named (token_from from (taken s)); completed = completed_rows_by has (taken s) });
    }

-- Every tick of this board finds it with nobody.
pub from_nobody : (s : State) → ticked_from most_processors s ≡ ticked s
unfolding ticked_from has_from token_from ticked has_token
from_nobody s = refl

-- Where the token starts: with nobody, or with a processor whose job is in memory.
pub record Starts (from : ℕ) (s : State) : Type 0 where
  pub most : from ≤ most_processors
  pub fits : from < most_processors → in_memory (taken s) (hand_at (taken s) from) ≡ true

pub with_nobody : (s : State) → Starts most_processors s
with_nobody s = record { most = omega arith; fits = λ h. absurd (omega (arith, h)) }

module _ (from : ℕ) (s : State) where
  -- the job of processor p is in memory after rule 1
  unfoldable pub memory_at : ℕ → Bool
  memory_at p = in_memory (taken s) (hand_at (taken s) p)

  -- who may do a memory tick, and `token` before processor p's turn
  abbrev has : ℕ → Bool
  has = has_from from (taken s)

  abbrev pub token_of : ℕ → ℕ
  token_of = token_before most_processors memory_at from

  -- row i stands on a processor below p and completes
  unfoldable pub done_below : ℕ → ℕ → Bool
  done_below p i = ltb (processor_at s i) p && completes_by has (taken s) i

  -- the processors below p have had their turn
  pub record Turned (now : State) (token : Option ℕ) (completed p : ℕ) : Type 0 where
    pub within : p ≤ most_processors
    pub same_set : now.set ≡ s.set
    pub same_clock : now.clock ≡ s.clock
    pub hands_long : length now.hands ≡ most_processors
    pub jobs_long : length now.jobs ≡ most_rows
    pub hand : (q : ℕ) → q < most_processors → hand_at now q ≡ pick (ltb q p) (frees_by has (taken s) (hand_at (taken s) q)) (hand_at s q)
    pub job : (i : ℕ) → i < most_rows → job_at now i ≡ pick (ltb (processor_at s i) p) (job_run_by has (taken s) i) (job_at s i)
    pub token_is : token ≡ token_named (token_of p)
    pub completed_is : completed ≡ word most_rows (done_below p)

  none_done : (i : ℕ) → done_below 0 i ≡ false
  unfolding done_below
  none_done i = ap (λ (b : Bool). b && completes_by has (taken s) i) (le-ltb (processor_at s i) 0 (omega arith))

  module _ (k : Shaped s) (o : Starts from s) where
    pub turned_none : length s.hands ≡ most_processors → length s.jobs ≡ most_rows → Turned s (token_named from) 0 0
    unfolding memory_at word_from
    turned_none a b =
        record {
          within = omega arith;
          same_set = refl;
          same_clock = refl;
          hands_long = a;
          jobs_long = b;
          hand = λ q l. sym (pick_false _ _ _ (le-ltb q 0 (omega arith)));
          job = λ i l. sym (pick_false _ _ _ (le-ltb (processor_at s i) 0 (omega arith)));
          token_is = ap token_named (token_starts most_processors memory_at from o.most o.fits);
          completed_is = word_same most_rows (λ i. false) (done_below 0) (λ i l. sym (none_done i));
        }

    -- rows of one processor, in the middle of the tick
    on_same : (i p : ℕ) → i < most_rows → processor_at s i ≡ p → in_hand (taken s) i ≡ holds (hand_taken s p) i
    unfolding taken
    on_same i p l e =
        ap (λ (h : Option ℕ). holds h i) (taken_hand s (processor_at s i) (on_board s k i l)) ∙ ap (λ (q : ℕ). holds (hand_taken s q) i) e

    unheld : (i : ℕ) → i < most_rows → in_hand (taken s) i ≡ false → (job_run_by has (taken s) i ≡ job_at s i) × (completes_by has (taken s) i ≡ false)
    unfolding job_taken
    unheld i l e =
        let n = not_in_hand (taken s) (take_keeps s k) has i l e in
        (n.0 ∙ taken_job s i l ∙ pick_false (holds (hand_taken s (processor_at s i)) i) _ _ (sym (on_same i (processor_at s i) l refl) ∙ e), n.1)

    memory_at_lem : (p : ℕ) → p < most_processors → memory_at p ≡ in_memory (taken s) (hand_taken s p)
    unfolding memory_at
    memory_at_lem p l = ap (in_memory (taken s)) (taken_hand s p l)

    -- the token after a processor's turn, by the job in its hand
    token_on : (p : ℕ) → p < most_processors → pick (in_memory (taken s) (hand_taken s p) && may_have most_processors (token_of p) p) p (token_of p) ≡ token_of (p + 1)
    unfolding memory_at
    token_on p l =
        rw (← memory_at_lem p l) (token_next most_processors memory_at from o.most o.fits p l)

    -- a processor with none in hand after rule 1
    module _ (now : State) (token : Option ℕ) (completed p : ℕ) (c : Turned now token completed p) (l : p < most_processors) where
      -- its hand is as it was before the loop
      pub hand_before : hand_at now p ≡ hand_at s p
      hand_before = c.hand p l ∙ pick_false (ltb p p) _ _ (le-ltb p p (omega arith))

      -- the code's test where the token starts with nobody
      pub nobody_has : from ≡ most_processors → (free : Bool) → is_some token ≡ not free → free ≡ may_have most_processors (token_of p) p
      unfolding memory_at
      nobody_has e free h =
          named_none (token_of p) (token_most most_processors memory_at from o.most o.fits p (omega arith)) free (ap is_some (sym c.token_is) ∙ h)
          ∙ sym (nobody_yet most_processors memory_at from o.most o.fits e p l)

      module _ (f : hand_taken s p ≡ None) where
        was_free : hand_at s p ≡ None
        unfolding hand_taken
        was_free = go (hand_at s p) refl f
          where
            go : (h : Option ℕ) → hand_at s p ≡ h → takes h (first_waiting s p) ≡ None → hand_at s p ≡ None
            go None e t = e
            go (Some j) e t = no_hold j (sym t)

        free_row : (i : ℕ) → i < most_rows → processor_at s i ≡ p → in_hand (taken s) i ≡ false
        free_row i m e = on_same i p m e ∙ ap (λ (h : Option ℕ). holds h i) f

        pub turned_free : Turned now token completed (p + 1)
        unfolding frees_by done_below in_memory
        turned_free =
            record {
              within = omega arith;
              same_set = c.same_set;
              same_clock = c.same_clock;
              hands_long = c.hands_long;
              jobs_long = c.jobs_long;
              hand = λ q m. hand q m (ℕ_discrete q p);
              job = λ i m. job i m (ℕ_discrete (processor_at s i) p);
              token_is = c.token_is ∙ ap token_named (sym (ap (λ (b : Bool). pick (b && may_have most_processors (token_of p) p) p (token_of p)) (ap (in_memory (taken s)) f)) ∙ token_on p l);
              completed_is = c.completed_is ∙ word_same most_rows (done_below p) (done_below (p + 1)) (λ i m. done i m (ℕ_discrete (processor_at s i) p));
            }
          where
            hand : (q : ℕ) → q < most_processors → Dec (q ≡ p) → hand_at now q ≡ pick (ltb q (p + 1)) (frees_by has (taken s) (hand_at (taken s) q)) (hand_at s q)
            hand q m (yes e) =
                subst (λ (x : ℕ). hand_at now x ≡ pick (ltb x (p + 1)) (frees_by has (taken s) (hand_at (taken s) x)) (hand_at s x)) (sym e)
                (hand_before
                ∙ was_free
                ∙ sym (ap (frees_by has (taken s)) (taken_hand s p l ∙ f))
                ∙ sym (pick_true (ltb p (p + 1)) _ _ (lt-ltb p (p + 1) (omega arith))))
            hand q m (no n) = c.hand q m ∙ ap (λ (b : Bool). pick b (frees_by has (taken s) (hand_at (taken s) q)) (hand_at s q)) (sym (next_other q p n))

            job : (i : ℕ) → i < most_rows → Dec (processor_at s i ≡ p) → job_at now i ≡ pick (ltb (processor_at s i) (p + 1)) (job_run_by has (taken s) i) (job_at s i)
            job i m (yes e) =
                c.job i m
                ∙ pick_false (ltb (processor_at s i) p) _ _ (le-ltb (processor_at s i) p (omega (arith, e)))
                ∙ sym (unheld i m (free_row i m e)).0
                ∙ sym (pick_true (ltb (processor_at s i) (p + 1)) _ _ (lt-ltb (processor_at s i) (p + 1) (omega (arith, e))))
            job i m (no n) = c.job i m ∙ ap (λ (b : Bool). pick b (job_run_by has (taken s) i) (job_at s i)) (sym (next_other (processor_at s i) p n))

            done : (i : ℕ) → i < most_rows → Dec (processor_at s i ≡ p) → done_below p i ≡ done_below (p + 1) i
            done i m (yes e) =
                let z = (unheld i m (free_row i m e)).1 in
                rw (z, le-ltb (processor_at s i) p (omega (arith, e)), lt-ltb (processor_at s i) (p + 1) (omega (arith, e)))
            done i m (no n) = ap (λ (b : Bool). b && completes_by has (taken s) i) (sym (next_other (processor_at s i) p n))

      -- a processor with row i in hand after rule 1
      module _ (i : ℕ) (h : hand_taken s p ≡ Some i) where
        own : OwnHand s.set p (Some i)
        unfolding taken
        own = subst (OwnHand s.set p) (taken_hand s p l ∙ h) ((take_keeps s k).hand p l)

        pub row_most : i < most_rows
        row_most = below_most s k i own.0

        -- its job is as it was before the loop
        pub job_before : job_at now i ≡ job_at s i
        job_before =
            c.job i row_most ∙ pick_false (ltb (processor_at s i) p) _ _ (le-ltb (processor_at s i) p (omega (arith, own.1)))

        abbrev row : Row
        row = row_at s i

        abbrev standing : Standing
        standing = begins (row_at s i) (standing_at s i)

        held_job : job_at (taken s) i ≡ stand_as (job_at s i) standing
        unfolding job_taken
        held_job =
            taken_job s i row_most
            ∙ pick_true (holds (hand_taken s (processor_at s i)) i) _ _
            (ap (λ (q : ℕ). holds (hand_taken s q) i) own.1 ∙ ap (λ (x : Option ℕ). holds x i) h ∙ eq-eqb i i refl)

        memory_is : in_memory (taken s) (hand_taken s p) ≡ is_memory standing
        unfolding in_memory
        memory_is = ap (in_memory (taken s)) h ∙ ap (λ (j : Job). is_memory j.standing) held_job

        free_has : is_memory standing ≡ true → may_have most_processors (token_of p) p ≡ has i
        unfolding has_from token_from token_at memory_at taken
        free_has e =
            may_is most_processors memory_at from o.most o.fits p l (memory_at_lem p l ∙ memory_is ∙ e)
            ∙ ap (λ (q : ℕ). eqb q (granted most_processors memory_at from)) (sym own.1)

        pub turn_is : turn_of i row (job_at s i) (may_have most_processors (token_of p) p) s.clock
            ≡ record {
              job = job_run_by has (taken s) i;
              hand = frees_by has (taken s) (Some i);
              token = token_in row (job_at s i) (may_have most_processors (token_of p) p);
            }
        unfolding job_run_by completes_by frees_by taken
        turn_is =
            turn_has i row (job_at s i) (may_have most_processors (token_of p) p) (has i) s.clock free_has
            ∙ sym
            (ap
            (λ (j : Job). record {
              job = pick (finishes row (has i) j.standing) (finished s.clock j) (stand_as j (steps row (has i) j.standing));
              hand = pick (finishes row (has i) j.standing) None (Some i);
              token = token_in row (job_at s i) (may_have most_processors (token_of p) p);
            })
            held_job)

        held : in_hand (taken s) i ≡ true
        held = on_same i p row_most own.1 ∙ ap (λ (x : Option ℕ). holds x i) h ∙ eq-eqb i i refl

        -- what the turn is asked for
        pub in_turn : s.clock < most_clock → InTurn s.clock (job_at s i)
        unfolding taken
        in_turn e =
            record {
              live = not_so (is_absent (standing_at s i)) (λ a. true_not_false (in_hand (taken s) i) held (mid a));
              timely = record { early = e; last = (k.row i own.0).last; completed = (k.row i own.0).completed };
            }
          where
            mid : is_absent (standing_at s i) ≡ true → in_hand (taken s) i ≡ false
            mid a =
                subst (Stands row (in_hand (taken s) i)) (ap (λ (j : Job). j.standing) held_job ∙ ap (begins row) (absent_facts (standing_at s i) a))
                ((take_keeps s k).row i own.0).standing

        -- the other rows of p
        other_row : (j : ℕ) → j < most_rows → (j ≡ i → ⊥) → processor_at s j ≡ p → (job_run_by has (taken s) j ≡ job_at s j) × (completes_by has (taken s) j ≡ false)
        other_row j m n e = unheld j m (on_same j p m e ∙ ap (λ (x : Option ℕ). holds x j) h ∙ ne_eqb i j (λ q. n (sym q)))

        past_row : (j : ℕ) → j < most_rows → s.set.count ≤ j → completes_by has (taken s) j ≡ false
        unfolding taken
        past_row j m g = (unheld j m (past_free (taken s) (take_keeps s k) j m g)).1

        done_false : (q j : ℕ) → completes_by has (taken s) j ≡ false → done_below q j ≡ false
        unfolding done_below
        done_false q j e = rw e (go (ltb (processor_at s j) q))
          where
            go : (b : Bool) → (b && false) ≡ false
            go true = refl
            go false = refl

        done_later : (q j : ℕ) → q ≤ processor_at s j → done_below q j ≡ false
        unfolding done_below
        done_later q j e = ap (λ (b : Bool). b && completes_by has (taken s) j) (le-ltb (processor_at s j) q e)

        done_other : (j : ℕ) → j < most_rows → (j ≡ i → ⊥) → done_below p j ≡ done_below (p + 1) j
        unfolding done_below
        done_other j m n = go (ℕ_discrete (processor_at s j) p)
          where
            go : Dec (processor_at s j ≡ p) → done_below p j ≡ done_below (p + 1) j
            go (yes e) = let z = (other_row j m n e).1 in done_false p j z ∙ sym (done_false (p + 1) j z)
            go (no d) = ap (λ (b : Bool). b && completes_by has (taken s) j) (sym (next_other (processor_at s j) p d))

        -- rows from i on, of processors before p and, but for i, of p
        not_before : (j : ℕ) → i ≤ j → j < most_rows → done_below p j ≡ false
        not_before j g m = go (dec_lt j s.set.count)
          where
            go : Dec (j < s.set.count) → done_below p j ≡ false
            go (yes b) = done_later p j (omega (arith, processors_rise s.set (set_well_formed s k) i j g b, own.1))
            go (no b) = done_false p j (past_row j m (omega arith))

        token_then : pick (token_in row (job_at s i) (may_have most_processors (token_of p) p)) p (token_of p) ≡ token_of (p + 1)
        token_then = ap (λ (b : Bool). pick (b && may_have most_processors (token_of p) p) p (token_of p)) (sym memory_is) ∙ token_on p l

        token_set : (t : Bool) → pick t (Some p) token ≡ token_named (pick t p (token_of p))
        token_set true = sym (pick_true (ltb p most_processors) _ _ (lt-ltb p most_processors l))
        token_set false = c.token_is

        completed_next : (b : Bool) → completes_by has (taken s) i ≡ b → pick b (bit_or completed ((1 * 2 ^ i) % 2 ^ 32)) completed ≡ word most_rows (done_below (p + 1))
        unfolding done_below
        completed_next false e =
            c.completed_is ∙ word_same most_rows (done_below p) (done_below (p + 1)) (λ j m. at j m (ℕ_discrete j i))
          where
            at : (j : ℕ) → j < most_rows → Dec (j ≡ i) → done_below p j ≡ done_below (p + 1) j
            at j m (yes q) = subst (λ (x : ℕ). done_below p x ≡ done_below (p + 1) x) (sym q) (done_false p i e ∙ sym (done_false (p + 1) i e))
            at j m (no n) = done_other j m n
        completed_next true e =
            set_above most_rows i completed (done_below p) (done_below (p + 1)) (omega arith) row_most c.completed_is
            not_before
            (λ j g. done_other j (omega (arith, row_most)) (λ q. absurd (omega (arith, q, g))))
            (rw (e, lt-ltb (processor_at s i) (p + 1) (omega (arith, own.1))))
            (λ j g m. sym (done_other j m (λ q. absurd (omega (arith, q, g)))) ∙ not_before j (omega (arith, g)) m)

        -- the hand is free after the turn exactly if the row completes
        done_freed : {hand : Option ℕ} {none : Bool} → hand ≡ frees_by has (taken s) (Some i) → is_some hand ≡ not none → none ≡ completes_by has (taken s) i
        unfolding frees_by
        done_freed e n = done_is (completes_by has (taken s) i) i _ (ap is_some (sym e) ∙ n)

        pub turned_hand : (hands : List (Option ℕ)) (jobs : List Job) (token₁ : Option ℕ) (completed₁ : ℕ) (turn : Turn) (none : Bool)
            → turn ≡ turn_of i row (job_at s i) (may_have most_processors (token_of p) p) s.clock
            → is_some turn.hand ≡ not none
            → hands ≡ set now.hands p turn.hand
            → jobs ≡ set now.jobs i turn.job
            → token₁ ≡ pick turn.token (Some p) token
            → completed₁ ≡ pick none (bit_or completed ((1 * 2 ^ i) % 2 ^ 32)) completed
            → Turned (record { set = now.set; clock = now.clock; hands = hands; jobs = jobs }) token₁ completed₁ (p + 1)
        turned_hand hands jobs token₁ completed₁ turn none t n d e a b =
            let r = t ∙ turn_is in
            rw (d, e)
            (record {
              within = omega arith;
              same_set = c.same_set;
              same_clock = c.same_clock;
              hands_long = length-set now.hands p turn.hand ∙ c.hands_long;
              jobs_long = length-set now.jobs i turn.job ∙ c.jobs_long;
              hand = λ q m. hand (ap (λ (x : Turn). x.hand) r) q m (ℕ_discrete q p);
              job = λ j m. job (ap (λ (x : Turn). x.job) r) j m (ℕ_discrete j i) (ℕ_discrete (processor_at s j) p);
              token_is = a ∙ ap (λ (x : Turn). pick x.token (Some p) token) r ∙ token_set _ ∙ ap token_named token_then;
              completed_is =
                  b
                  ∙ ap (λ (x : Bool). pick x (bit_or completed ((1 * 2 ^ i) % 2 ^ 32)) completed) (done_freed (ap (λ (x : Turn). x.hand) r) n)
                  ∙ completed_next (completes_by has (taken s) i) refl;
            })
          where
            hand : turn.hand ≡ frees_by has (taken s) (Some i) → (q : ℕ) → q < most_processors → Dec (q ≡ p)
                → get_or (set now.hands p turn.hand) q None ≡ pick (ltb q (p + 1)) (frees_by has (taken s) (hand_at (taken s) q)) (hand_at s q)
            hand r q m (yes e) =
                subst (λ (x : ℕ). get_or (set now.hands p turn.hand) x None ≡ pick (ltb x (p + 1)) (frees_by has (taken s) (hand_at (taken s) x)) (hand_at s x)) (sym e)
                (get_or-set_same now.hands p turn.hand None (omega (arith, c.hands_long))
                ∙ r
                ∙ sym (ap (frees_by has (taken s)) (taken_hand s p l ∙ h))
                ∙ sym (pick_true (ltb p (p + 1)) _ _ (lt-ltb p (p + 1) (omega arith))))
            hand r q m (no n) =
                get_or-set_other now.hands p q turn.hand None n
                ∙ c.hand q m
                ∙ ap (λ (b : Bool). pick b (frees_by has (taken s) (hand_at (taken s) q)) (hand_at s q)) (sym (next_other q p n))

            job : turn.job ≡ job_run_by has (taken s) i → (j : ℕ) → j < most_rows → Dec (j ≡ i) → Dec (processor_at s j ≡ p)
                → get_or (set now.jobs i turn.job) j no_job ≡ pick (ltb (processor_at s j) (p + 1)) (job_run_by has (taken s) j) (job_at s j)
            job r j m (yes e) d =
                subst (λ (x : ℕ). get_or (set now.jobs i turn.job) x no_job ≡ pick (ltb (processor_at s x) (p + 1)) (job_run_by has (taken s) x) (job_at s x)) (sym e)
                (get_or-set_same now.jobs i turn.job no_job (omega (arith, c.jobs_long, row_most))
                ∙ r
                ∙ sym (pick_true (ltb (processor_at s i) (p + 1)) _ _ (lt-ltb (processor_at s i) (p + 1) (omega (arith, own.1)))))
            job r j m (no n) (yes e) =
                get_or-set_other now.jobs i j turn.job no_job n
                ∙ c.job j m
                ∙ pick_false (ltb (processor_at s j) p) _ _ (le-ltb (processor_at s j) p (omega (arith, e)))
                ∙ sym (other_row j m n e).0
                ∙ sym (pick_true (ltb (processor_at s j) (p + 1)) _ _ (lt-ltb (processor_at s j) (p + 1) (omega (arith, e))))
            job r j m (no n) (no d) =
                get_or-set_other now.jobs i j turn.job no_job n
                ∙ c.job j m
                ∙ ap (λ (b : Bool). pick b (job_run_by has (taken s) j) (job_at s j)) (sym (next_other (processor_at s j) p d))

    -- all processors have had their turn
    module _ (now : State) (token : Option ℕ) (completed p : ℕ) (c : Turned now token completed p) (end : most_processors ≤ p) where
      at_end : p ≡ most_processors
      at_end = omega (arith, c.within)

      all_hands : (q : ℕ) → q < most_processors → hand_at now q ≡ frees_by has (taken s) (hand_at (taken s) q)
      all_hands q m = c.hand q m ∙ pick_true (ltb q p) _ _ (lt-ltb q p (omega arith))

      all_jobs : (i : ℕ) → i < most_rows → job_at now i ≡ job_run_by has (taken s) i
      all_jobs i m = c.job i m ∙ pick_true (ltb (processor_at s i) p) _ _ (lt-ltb (processor_at s i) p (omega (arith, on_board s k i m)))

      all_token : token ≡ token_named (token_from from (taken s))
      unfolding token_from token_at memory_at
      all_token = c.token_is ∙ ap token_named (ap token_of at_end ∙ token_ends most_processors memory_at from o.most o.fits)

      all_completed : completed ≡ completed_rows_by has (taken s)
      unfolding completed_rows_by done_below
      all_completed =
          c.completed_is
          ∙ word_same most_rows (done_below p) (completes_by has (taken s))
          (λ i m. ap (λ (b : Bool). b && completes_by has (taken s) i) (lt-ltb (processor_at s i) p (omega (arith, on_board s k i m))))

      pub turned_all : record {
        state = record { set = now.set; clock = s.clock + 1; hands = now.hands; jobs = now.jobs };
        answer = Ok (record { token = token; completed = completed });
      }
          ≡ ticked_from from s
      unfolding ticked_from ran_by taken
      turned_all =
          same_ticked (s.clock + 1) c.same_set
          (is_tab most_processors _ None now.hands c.hands_long all_hands)
          (is_tab most_rows (job_run_by has (taken s)) no_job now.jobs c.jobs_long all_jobs)
          all_token
          all_completed
