use Prim.Native.Nat.{ℕ, ◌+◌, ◌*◌, ◌^◌, ◌%◌, ◌≤◌, ◌<◌}
use mathlib.Core.Path.{◌≡◌, refl, sym, ap, subst, ◌∙◌}
use mathlib.Core.Bool.{Bool, true, not}
use mathlib.Core.List.{List}
use native.Mathlib.Omega.{arith}
use lib.Bits.{bit_or}
use lib.Count.{count_trailing_zeros}
use lib.ListN.{get_or, set}
use borrow.Author.Rules.{rules}
use Rattle.std.specs.Prelude.{Option, Some, is_some}
use Rattle.laws.specs.Choice.{pick, first_of}
use Rattle.laws.specs.ChoiceLaws.{pick_true, pick_false, true_not_false}
use Rattle.laws.specs.Words.{word}
use Rattle.sheet.proofs.AnswerLaws.{some_number}
use Rattle.sheet.specs.Ranges.{most_processors, most_rows}
use Rattle.board.specs.declared.Job.{Job}
use Rattle.board.specs.declared.State.{State}
use Rattle.board.specs.declared.Turn.{Turn}
use Rattle.board.specs.States.{row_at, job_at, hand_at}
use Rattle.board.specs.Rules.{waits_on, hand_taken}
use Rattle.board.specs.Shape.{shape_ok}
use Rattle.board.specs.Calls.{tick_table, tick_number}
use Rattle.board.specs.Parts.{row_or, InTurn, turn_of}
use Rattle.board.proofs.ShapeFacts.{Shaped, set_well_formed, shape_of}
use Rattle.board.proofs.Kept.{MayTick, may_tick, tick_accepted, tick_refused}
use Rattle.board.proofs.Checking.{rows_none, row_below, row_is, rows_more, past_is, hands_none, hands_all, head_fails, part_fails, hand_fails}
use Rattle.board.proofs.Gathering.{gathered_none, gathered_skip, gathered_more, gathered_all, takes_row, takes_none}
use Rattle.board.proofs.Granting.{may_have}
use Rattle.board.proofs.Turning.{Turned, token_of, from_nobody, with_nobody, turned_none, turned_free, turned_hand, turned_all, hand_before, job_before, nobody_has, in_turn}
use Rattle.board.proofs.State.tick.Goals.{then-check, else-check+then-loop-i-test+then-not-part_fits, else-check+else-loop-i-test+then-loop-i-2-test+then-not-part_is_zero, else-check+else-loop-i-test+else-loop-i-2-test+then-loop-h-test+then-not-hand_is_own, else-check+else-loop-i-test+else-loop-i-2-test+else-loop-h-test}
use Rattle.board.proofs.State.tick.Goals.{then-is_waiting, else-is_waiting, then-k-lt32+then-is_none, then-turn, else-turn, then-k-lt32+else-is_none, else-k-lt32}
use Rattle.board.proofs.State.tick.Goals as goal
use Rattle.board.proofs.State.tick.Goals.{Joined-check}

-- The check says the shape, wherever it ends.
checked : (c : Joined-check) → c.if-check.fits ≡ shape_ok c.args.self
checked c =
    let s = c.args.self in
    elim c.if-check.branch [
      | then-check w ↦ w.fits-is ∙ sym (head_fails s _ c.head_fits.ensures w.if-check.true)
      | else-check+then-loop-i-test+then-not-part_fits w ↦
          let i = w.loop-i.invariant.0 in
          let l = w.loop-i-test.true in
          w.fits-is ∙ sym (part_fails s _ (row_below s _ _ i l) (sym (row_is s _ _ i l _ (rw w.from-on.ensures at w.part_fits.ensures)) ∙ w.if-not-part_fits.true))
      | else-check+else-loop-i-test+then-loop-i-2-test+then-not-part_is_zero w ↦
          w.fits-is ∙ sym (part_fails s _ w.loop-i-2-test.true (sym (past_is s _ w.loop-i-2.auto.i _ w.part_is_zero.ensures) ∙ w.if-not-part_is_zero.true))
      | else-check+else-loop-i-test+else-loop-i-2-test+then-loop-h-test+then-not-hand_is_own w ↦
          w.fits-is ∙ sym (hand_fails s _ w.loop-h-test.true (sym (rw w.unwrap_or.ensures at w.hand_is_own.ensures) ∙ w.if-not-hand_is_own.true))
      | else-check+else-loop-i-test+else-loop-i-2-test+else-loop-h-test w ↦ w.fits-is ∙ sym (hands_all s _ w.loop-h.invariant w.loop-h-test.false)
    ]

-- So the number of its answer is the call's.
numbered : (s : State) (fits : Bool) → fits ≡ shape_ok s → (number : ℕ) → number ≡ first_of (tick_table fits s.clock) → number ≡ tick_number s
unfolding tick_number
numbered s fits c number e = e ∙ ap (λ (b : Bool). first_of (tick_table b s.clock)) c

goes : (s : State) (fits : Bool) → fits ≡ shape_ok s → 0 ≡ first_of (tick_table fits s.clock) → MayTick s
goes s fits c e = may_tick s (sym (numbered s fits c 0 e))

-- The words of waiting rows, once the state is known to have the shape.
words : (c : Joined-check) → Shaped c.args.self → (p : ℕ) → p < most_processors → get_or c.if-check.masks p 0 ≡ word most_rows (waits_on c.args.self p)
words c k p l =
    let fits : c.if-check.fits ≡ true = checked c ∙ shape_of c.args.self k in
    elim c.if-check.branch [
      | then-check w ↦ true_not_false _ fits w.fits-is
      | else-check+then-loop-i-test+then-not-part_fits w ↦ true_not_false _ fits w.fits-is
      | else-check+else-loop-i-test+then-loop-i-2-test+then-not-part_is_zero w ↦ true_not_false _ fits w.fits-is
      | else-check+else-loop-i-test+else-loop-i-2-test+then-loop-h-test+then-not-hand_is_own w ↦ true_not_false _ fits w.fits-is
      | else-check+else-loop-i-test+else-loop-i-2-test+else-loop-h-test w ↦
          ap (λ (m : List ℕ). get_or m p 0) w.masks-is
          ∙ gathered_all c.args.self k _ _ w.loop-i.invariant.1 w.loop-i-test.false (omega (arith, w.loop-i.auto.i-end, (set_well_formed c.args.self k).rows_most)) p l
    ]

-- A processor's turn, with the row that the code has for it.
module _ (s : State) (m : MayTick s) (now : State) (token : Option ℕ) (completed p : ℕ) (c : Turned most_processors s now token completed p) (l : p < most_processors) (mask : ℕ) (w : mask ≡ word most_rows (waits_on s p)) (row : ℕ) (e : row ≡ row_or (hand_at now p) (count_trailing_zeros most_rows mask)) where
  row_had : row ≡ row_or (hand_at s p) (count_trailing_zeros most_rows mask)
  row_had = e ∙ ap (λ (h : Option ℕ). row_or h (count_trailing_zeros most_rows mask)) (hand_before most_processors s m.shape (with_nobody s) now token completed p c l)

  held : row < most_rows → hand_taken s p ≡ Some row
  held b = takes_row s m.shape p l mask w row row_had b

  turn_asked : row < most_rows → InTurn s.clock (job_at now row)
  turn_asked b =
      subst (InTurn s.clock) (sym (job_before most_processors s m.shape (with_nobody s) now token completed p c l row (held b)))
      (in_turn most_processors s m.shape (with_nobody s) now token completed p c l row (held b) m.early)

  -- the turn that it has, by the test that the token is with nobody
  turn_had : row < most_rows → (free : Bool) → is_some token ≡ not free
      → turn_of row (row_at s row) (job_at now row) free s.clock ≡ turn_of row (row_at s row) (job_at s row) (may_have most_processors (token_of most_processors s p) p) s.clock
  turn_had b free n =
      ap (λ (j : Job). turn_of row (row_at s row) j free s.clock) (job_before most_processors s m.shape (with_nobody s) now token completed p c l row (held b))
      ∙ ap (λ (f : Bool). turn_of row (row_at s row) (job_at s row) f s.clock) (nobody_has most_processors s m.shape (with_nobody s) now token completed p c l refl free n)

  after_turn : row < most_rows → (free : Bool) → is_some token ≡ not free
      → (turn : Turn) → turn ≡ turn_of row (row_at s row) (job_at now row) free s.clock
      → (none : Bool) → is_some turn.hand ≡ not none
      → (hands : List (Option ℕ)) (jobs : List Job) (token₁ : Option ℕ) (completed₁ : ℕ)
      → hands ≡ set now.hands p turn.hand
      → jobs ≡ set now.jobs row turn.job
      → token₁ ≡ pick turn.token (Some p) token
      → completed₁ ≡ pick none (bit_or completed ((1 * 2 ^ row) % 2 ^ 32)) completed
      → Turned most_processors s (record { set = now.set; clock = now.clock; hands = hands; jobs = jobs }) token₁ completed₁ (p + 1)
  after_turn b free n turn t none h hands jobs token₁ completed₁ a d f g =
      turned_hand most_processors s m.shape (with_nobody s) now token completed p c l row (held b) hands jobs token₁ completed₁ turn none (t ∙ turn_had b free n) h a d f g

  after_none : most_rows ≤ row → Turned most_processors s now token completed (p + 1)
  after_none b = turned_free most_processors s m.shape (with_nobody s) now token completed p c l (takes_none s m.shape p l mask w row row_had b)

pub loop-i-init : goal.loop-i-init
loop-i-init c = (rows_none _ _ c.head_fits.ensures c.if-check.false, gathered_none _)

pub loop-i-preserved : goal.loop-i-preserved
loop-i-preserved c = let s = c.args.self in
    let i = c.loop-i.invariant in
    let l = c.loop-i-test.true in
    let e = c.is_waiting.ensures in (
      rows_more _ _ _ i.0 l (sym (row_is _ _ _ i.0 l _ (rw c.from-on.ensures at c.part_fits.ensures)) ∙ c.if-not-part_fits.false),
      elim c.if-is_waiting.branch [
        | then-is_waiting w ↦ rw (w.masks-is, c.from-on.ensures) (gathered_more s _ _ i.1 (row_below s _ _ i.0 l) (sym e ∙ w.if-is_waiting.true))
        | else-is_waiting w ↦ rw w.masks-is (gathered_skip s _ _ i.1 (sym e ∙ w.if-is_waiting.false))
      ],
    )

pub loop-h-init : goal.loop-h-init
loop-h-init c = hands_none _ _ c.loop-i-2.invariant c.loop-i-2-test.false

pub loop-p-init : goal.loop-p-init
loop-p-init c =
    let s = c.args.self in
    let m = goes _ _ (checked (goal.at.loop-p-init c).Joined-check) c.in-Ok.ensures in
    turned_none _ s m.shape (with_nobody s) (search rules) (search rules)

pub turned-turn-requires : goal.turned-turn-requires
turned-turn-requires c =
    let s = c.args.self in
    let m = goes _ _ (checked (goal.at.turned-turn-requires c).Joined-check) c.in-Ok.ensures in
    let l : c.loop-p.p < most_processors = omega arith in
    let w = words (goal.at.turned-turn-requires c).Joined-check m.shape c.loop-p.p l in
    turn_asked s m _ _ _ _ c.loop-p.invariant l _ w _ c.unwrap_or-k.ensures c.if-k-lt32.true

pub loop-p-preserved : goal.loop-p-preserved
loop-p-preserved c =
    let s = c.args.self in
    let m = goes _ _ (checked (goal.at.loop-p-preserved c).Joined-check) c.in-Ok.ensures in
    let a = c.loop-p.invariant in
    let l : c.loop-p.p < most_processors = omega arith in
    let w = words (goal.at.loop-p-preserved c).Joined-check m.shape c.loop-p.p l in
    elim c.if-k-lt32.branch [
      | then-k-lt32+then-is_none v ↦
          after_turn s m _ _ _ _ a l _ w _ c.unwrap_or-k.ensures v.if-k-lt32.true _ v.is_none.ensures v.turned-turn.result v.turned-turn.ensures _ v.is_none-then-k-lt32.ensures _ _ _ _ v.hands-is v.jobs-is
          (v.token-is
          ∙ elim v.if-turn.branch [
            | then-turn u ↦ u.token-is ∙ sym (pick_true _ _ _ u.if-turn.true)
            | else-turn u ↦ u.token-is ∙ sym (pick_false _ _ _ u.if-turn.false)
          ])
          (v.completed-is ∙ sym (pick_true _ _ _ v.if-is_none.true))
      | then-k-lt32+else-is_none v ↦
          after_turn s m _ _ _ _ a l _ w _ c.unwrap_or-k.ensures v.if-k-lt32.true _ v.is_none.ensures v.turned-turn.result v.turned-turn.ensures _ v.is_none-then-k-lt32.ensures _ _ _ _ v.hands-is v.jobs-is
          (v.token-is
          ∙ elim v.if-turn.branch [
            | then-turn u ↦ u.token-is ∙ sym (pick_true _ _ _ u.if-turn.true)
            | else-turn u ↦ u.token-is ∙ sym (pick_false _ _ _ u.if-turn.false)
          ])
          (v.completed-is ∙ sym (pick_false _ _ _ v.if-is_none.false))
      | else-k-lt32 v ↦
          rw (v.hands-is, v.jobs-is, v.token-is, v.completed-is) (after_none s m _ _ _ _ a l _ w _ c.unwrap_or-k.ensures v.if-k-lt32.false)
    ]

pub overflow_add-clock : goal.overflow_add-clock
overflow_add-clock c = omega (arith, (goes _ _ (checked (goal.at.overflow_add-clock c).Joined-check) c.in-Ok.ensures).early)

pub returns-after-loop-p : goal.returns-after-loop-p
returns-after-loop-p c =
    let s = c.args.self in
    let n = sym (numbered s _ (checked (goal.at.returns-after-loop-p c).Joined-check) 0 c.in-Ok.ensures) in
    turned_all _ s (may_tick s n).shape (with_nobody s) _ _ _ _ c.loop-p.invariant (omega arith) ∙ from_nobody s ∙ sym (tick_accepted s n)

pub returns-in-Err : goal.returns-in-Err
returns-in-Err c =
    let s = c.args.self in
    let e = numbered s _ (checked (goal.at.returns-in-Err c).Joined-check) _ c.in-Err.ensures in
    rw (c.new.ensures, e) (sym (tick_refused s (λ z. some_number c.in-Err.reason (e ∙ z))))
