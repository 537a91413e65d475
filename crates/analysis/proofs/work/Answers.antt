use Prim.Native.Nat.{ℕ, ◌-◌}
use mathlib.Core.Path.{◌≡◌, refl, sym, ap, ◌∙◌}
use mathlib.Core.List.{List}
use native.Mathlib.Omega.{arith}
use native.Mathlib.Numerals.{add-one}
use lib.ListN.{take, length-take}
use Rattle.std.proofs.Common.{rules, Result, Ok, Err}
use Rattle.sheet.specs.Ranges.{row_in}
use Rattle.analysis.specs.Equations.{Equations, verdict_of}
use Rattle.analysis.specs.Bounds.{equations_of, bound_in, fault_at}
use Rattle.analysis.specs.Analysis.{refusal_of}
use Rattle.analysis.specs.Parts.{Refuses, Answers}
use Rattle.analysis.specs.declared.Fault.{Fault}
use Rattle.analysis.proofs.RowsHeld.{Rows, Asks, rows_first, rows_same, rows_other, asks_none, asks_one, rows_equations, rows_next}
use Rattle.analysis.proofs.RowsAnswer.{row_fit, row_bounded, answer_fault, answer_accepted, row_next}
use Rattle.analysis.proofs.work.Goals as goal
use Rattle.analysis.proofs.work.Goals.{Joined-row-rank, After-verdict, After-from_residual, Joined-row-ne0, then-row-rank, else-row-rank, then-row-ne0, else-row-ne0}

-- the row's turn, on its own processor
turn : (c : Joined-row-rank) → Rows c.args.set c.loop-i.asking c.loop-i.own c.loop-i.bounds (row_in c.args.set c.loop-i.i-counter).processor c.if-row-rank.ranked c.loop-i.pending c.if-row-rank.first c.loop-i.i-counter
turn c =
    elim c.if-row-rank.branch [
      | then-row-rank w ↦ rw (w.ranked-is, w.first-is) (rows_other _ c.requires _ _ _ _ _ _ _ _ c.loop-i.invariant.0 c.loop-i-test.true c.loop-i.invariant.1 w.if-row-rank.true)
      | else-row-rank w ↦ rw (w.ranked-is, w.first-is) (rows_same _ c.requires _ _ _ _ _ _ _ _ c.loop-i.invariant.0 c.loop-i-test.true w.if-row-rank.false)
    ]

rank_is : (c : Joined-row-rank) → c.if-row-rank.rank ≡ (row_in c.args.set c.loop-i.i-counter).processor
rank_is c =
    elim c.if-row-rank.branch [ then-row-rank w ↦ w.rank-is | else-row-rank w ↦ w.rank-is ∙ sym w.if-row-rank.false ]

-- the verdict on it
judged : (c : After-verdict) → c.verdict.result ≡ verdict_of (equations_of c.args.set (bound_in (take c.loop-i.i-counter c.loop-i.bounds)) c.loop-i.i-counter) (row_in c.args.set c.loop-i.i-counter).deadline
judged c =
    let now : Rows c.args.set c.loop-i.asking c.loop-i.own c.loop-i.bounds (row_in c.args.set c.loop-i.i-counter).processor c.if-row-rank.ranked c.loop-i.pending c.if-row-rank.first c.loop-i.i-counter =
    elim c.if-row-rank.branch [
      | then-row-rank w ↦ rw (w.ranked-is, w.first-is) (rows_other _ c.requires _ _ _ _ _ _ _ _ c.loop-i.invariant.0 c.loop-i-test.true c.loop-i.invariant.1 w.if-row-rank.true)
      | else-row-rank w ↦ rw (w.ranked-is, w.first-is) (rows_same _ c.requires _ _ _ _ _ _ _ _ c.loop-i.invariant.0 c.loop-i-test.true w.if-row-rank.false)
    ] in
    c.verdict.ensures
    ∙ ap (λ (k : Equations). verdict_of k (row_in c.args.set c.loop-i.i-counter).deadline)
    (rows_equations _ c.requires _ _ _ _ _ _ _ now c.loop-i-test.true _ (c.blockings-blocked.ensures.block _ c.loop-i-test.true))

-- the row's entry among those that ask for memory
asks : (c : Joined-row-ne0) → Asks c.loop-i.asking c.loop-i.pending (row_in c.args.set c.loop-i.i-counter) c.in_ok-bound.bound c.if-row-ne0.asking c.if-row-ne0.pending
asks c =
    elim c.if-row-ne0.branch [
      | then-row-ne0 w ↦ rw (w.asking-is, w.pending-is) (asks_one _ _ _ _ (omega (arith, c.loop-i.invariant.0, c.requires.rows_most, c.loop-i-test.true)) w.ranked.result w.ranked.ensures)
      | else-row-ne0 w ↦ rw (w.asking-is, w.pending-is) (asks_none _ _ _ _ w.if-row-ne0.false)
    ]

pub loop-i-init : goal.loop-i-init
loop-i-init c = (rows_first _ _ _ _ refl refl (search rules), refl)

pub invariant_of-equations : goal.invariant_of-equations
invariant_of-equations c =
    record {
      few_ranked = omega (arith, length-take c.if-row-rank.ranked c.loop-i.asking, c.loop-i.invariant.0.long_asking);
      few_higher = omega (arith, length-take (c.loop-i.i-counter - c.if-row-rank.first) c.loop-i.own, c.loop-i.invariant.0.long_own);
      fit = row_fit _ c.requires _ c.blockings-blocked.ensures _ c.loop-i-test.true;
    }

-- the refusal of a row that has no bound
refused : (c : After-from_residual) → ((fault : Fault) → c.verdict.result ≡ Err fault → Refuses c.args.set (refusal_of (fault_at c.loop-i.i-counter fault)))
    → (v : Result ℕ Fault) → c.verdict.result ≡ v → (bounds : List ℕ) → Answers c.args.set bounds c.from_residual.result
refused c says (Ok r) e bounds =
    let z : c.map_err.result ≡ Ok r = search rules in
    absurd (search rules)
refused c says (Err fault) e bounds =
    let z : c.from_residual.result ≡ Err (refusal_of (fault_at c.loop-i.i-counter fault)) = search rules in
    rw z (says fault e)

pub returns-in_err-bound : goal.returns-in_err-bound
returns-in_err-bound c =
    refused c
    (λ fault e. answer_fault _ c.requires _ _ _ _ _ _ _ (turn (goal.at.returns-in_err-bound c).Joined-row-rank) c.loop-i-test.true fault _ refl (sym (judged (goal.at.returns-in_err-bound c).After-verdict) ∙ e))
    c.verdict.result refl _

pub ranked-requires : goal.ranked-requires
ranked-requires c =
    let v : c.verdict.result ≡ Ok c.in_ok-bound.bound = search rules in
    row_bounded _ c.requires _ _ _ _ _ _ _ (turn (goal.at.ranked-requires c).Joined-row-rank) c.loop-i-test.true _ (sym (judged (goal.at.ranked-requires c).After-verdict) ∙ v)

pub loop-i-preserved : goal.loop-i-preserved
loop-i-preserved c =
    let v : c.verdict.result ≡ Ok c.in_ok-bound.bound = search rules in
    let now = (turn (goal.at.loop-i-preserved c).Joined-row-rank) in
    let rank = rank_is (goal.at.loop-i-preserved c).Joined-row-rank in
    let next = rows_next _ c.requires _ _ _ _ _ _ _ now c.loop-i-test.true _ _ _ _ _ refl c.higher.ensures (asks (goal.at.loop-i-preserved c).Joined-row-ne0)
    (row_next _ c.requires _ _ _ _ _ _ _ now c.loop-i-test.true _ (sym (judged (goal.at.loop-i-preserved c).After-verdict) ∙ v)) in
    (rw rank next, rw add-one rank)

pub returns : goal.returns
returns c = answer_accepted _ _ _ _ _ _ _ _ _ c.loop-i.invariant.0 c.loop-i-test.false
