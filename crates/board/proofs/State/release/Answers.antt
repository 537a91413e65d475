use mathlib.Core.Path.{◌≡◌, ◌∙◌, sym, ap}
use borrow.Author.Rules.{rules}
use Rattle.sheet.specs.Refusals.{accepted, answered}
use Rattle.board.specs.declared.State.{State}
use Rattle.board.specs.Shape.{shape_ok}
use Rattle.board.proofs.ShapeFacts.{shaped, below_most}
use Rattle.board.proofs.Checking.{row_below, row_is, rows_more, past_is, hands_none, hands_all, head_fails, part_fails, hand_fails}
use Rattle.board.proofs.Faults.{no_fault, a_fault}
use Rattle.board.proofs.Answers.{release_shapeless, release_no_row, release_stays, release_taken, release_stored}
use Rattle.board.proofs.State.release.Goals.{then-check, else-check+then-loop-i-test+then-not-part_fits, else-check+else-loop-i-test+then-loop-i-2-test+then-not-part_is_zero, else-check+else-loop-i-test+else-loop-i-2-test+then-loop-h-test+then-not-hand_is_own, else-check+else-loop-i-test+else-loop-i-2-test+else-loop-h-test}
use Rattle.board.proofs.State.release.Goals.{then-not-fits, else-not-fits+then-set-row, else-not-fits+else-set-row+then-is_ok, else-not-fits+else-set-row+else-is_ok, Joined-check}
use Rattle.board.proofs.State.release.Goals as goal

-- The check says the shape, wherever it ends.
checked : (c : Joined-check) → c.if-check.fits ≡ shape_ok c.args.self
checked c =
    let s = c.args.self in
    elim c.if-check.branch [
      | then-check w ↦ w.fits-is ∙ sym (head_fails s _ c.head_fits.ensures w.if-check.true)
      | else-check+then-loop-i-test+then-not-part_fits w ↦
          let l = w.loop-i-test.true in
          w.fits-is ∙ sym (part_fails s _ (row_below s _ _ w.loop-i.invariant l) (sym (row_is s _ _ w.loop-i.invariant l _ (rw w.from-on.ensures at w.part_fits.ensures)) ∙ w.if-not-part_fits.true))
      | else-check+else-loop-i-test+then-loop-i-2-test+then-not-part_is_zero w ↦
          w.fits-is ∙ sym (part_fails s _ w.loop-i-2-test.true (sym (past_is s _ w.loop-i-2.auto.i _ w.part_is_zero.ensures) ∙ w.if-not-part_is_zero.true))
      | else-check+else-loop-i-test+else-loop-i-2-test+then-loop-h-test+then-not-hand_is_own w ↦
          w.fits-is ∙ sym (hand_fails s _ w.loop-h-test.true (sym (rw w.unwrap_or.ensures at w.hand_is_own.ensures) ∙ w.if-not-hand_is_own.true))
      | else-check+else-loop-i-test+else-loop-i-2-test+else-loop-h-test w ↦ w.fits-is ∙ sym (hands_all s _ w.loop-h.invariant w.loop-h-test.false)
    ]

pub loop-i-preserved : goal.loop-i-preserved
loop-i-preserved c =
    let i = c.loop-i.invariant in
    let l = c.loop-i-test.true in
    rows_more _ _ _ i l (sym (row_is _ _ _ i l _ (rw c.from-on.ensures at c.part_fits.ensures)) ∙ c.if-not-part_fits.false)

pub loop-h-init : goal.loop-h-init
loop-h-init c = hands_none _ _ c.loop-i-2.invariant c.loop-i-2-test.false

pub release_fault-fault-requires : goal.release_fault-fault-requires
release_fault-fault-requires c =
    ((shaped _ (sym (checked (goal.at.release_fault-fault-requires c).Joined-check) ∙ c.if-not-fits.false)).row _ c.if-set-row.false).last

pub returns : goal.returns
returns c =
    let s = c.args.self in
    let i = c.args.row in
    let e = sym (checked (goal.at.returns c).Joined-check) in
    elim c.if-not-fits.branch [
      | then-not-fits w ↦ rw (w.jobs-is, c.at_row.ensures, w.fault-is) (sym (release_shapeless s i (e ∙ w.if-not-fits.true)))
      | else-not-fits+then-set-row w ↦
          rw (w.jobs-is, c.at_row.ensures, w.fault-is) (sym (release_no_row s i (e ∙ w.if-not-fits.false) w.if-set-row.true))
      | else-not-fits+else-set-row+then-is_ok w ↦
          let k = e ∙ w.if-not-fits.false in
          let l = w.if-set-row.false in
          let z = no_fault w.release_fault-fault.result (sym w.is_ok.ensures.value ∙ w.if-is_ok.true) in
          rw (w.jobs-is, c.at_row.ensures, w.fault-is, z, w.released.ensures)
          (ap (λ (x : State). record { state = x; answer = answered accepted }) (release_stored s i (search rules) (below_most s (shaped s k) i l))
          ∙ sym (release_taken s i k l (sym w.release_fault-fault.ensures ∙ z)))
      | else-not-fits+else-set-row+else-is_ok w ↦
          let d = a_fault w.release_fault-fault.result (sym w.is_ok.ensures.value ∙ w.if-is_ok.false) in
          rw (w.jobs-is, c.at_row.ensures, w.fault-is)
          (sym (release_stays s i (e ∙ w.if-not-fits.false) w.if-set-row.false _ w.release_fault-fault.ensures d))
    ]
