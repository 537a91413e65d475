use Rattle.std.specs.Prelude.{◌≡◌, ◌+◌, ◌<◌, ◌≤◌, length}
use Rattle.std.proofs.Common.{sym, ◌∙◌, arith}
use Rattle.sheet.specs.Layout as layout
use Rattle.sheet.proofs.ReadingLaws as laws
use Rattle.sheet.proofs.read.Goals as goal
use Rattle.sheet.proofs.read.Goals.{then-is_ok, else-is_ok, In-loop-i, Then-is_ok}

-- A sheet that was accepted is long enough.
header : (c : Then-is_ok) → laws.Header c.args.sheet.now
header c =
    (laws.accepted_reads _ _ c.check-refusal.ensures (sym c.is_ok.ensures.value ∙ c.if-is_ok.true)).head

small : (c : In-loop-i) → c.loop-i.i < 32
small c =
    omega (arith, c.loop-i.invariant.begun.few)

pub bounds-sheet-3 : goal.bounds-sheet-3
bounds-sheet-3 c = let h = header (goal.at.bounds-sheet-3 c).Then-is_ok in omega arith

pub bounds-sheet-4 : goal.bounds-sheet-4
bounds-sheet-4 c = let h = header (goal.at.bounds-sheet-4 c).Then-is_ok in omega arith

pub loop-i-init : goal.loop-i-init
loop-i-init c = let e = c.check-refusal.ensures in
    elim c.if-is_ok.branch [
      | then-is_ok w ↦
          let b = laws.begun_accepted _ _ e (sym c.is_ok.ensures.value ∙ w.if-is_ok.true) in
          rw (w.set-is, w.from.ensures, c.no_set-set.ensures) (record { begun = b; within = omega arith; stored = laws.stored_none _ _ _ })
      | else-is_ok w ↦
          let b = laws.begun_refused _ _ e (sym c.is_ok.ensures.value ∙ w.if-is_ok.false) in
          rw (w.set-is, c.no_set-set.ensures) (record { begun = b; within = omega arith; stored = laws.stored_none _ _ _ })
    ]

pub loop-i-preserved : goal.loop-i-preserved
loop-i-preserved c =
    let whole : layout.row_start c.loop-i.i + 17 ≤ length c.args.sheet.now = c.loop-i.invariant.begun.long _ c.loop-i-test.true in
    let g = c.loop-i.invariant in
    let i = c.loop-i.i in
    let s = c.args.sheet.now in
    record {
      begun = g.begun;
      within = omega arith;
      stored = rw (g.stored, c.row_of.ensures, laws.row_part s i whole) (laws.stored_more _ _ _ i (small (goal.at.loop-i-preserved c).In-loop-i));
    }

pub returns : goal.returns
returns c = let g = c.loop-i.invariant in
    let e : c.loop-i.i ≡ c.if-is_ok.set.count = omega arith in
    laws.read_as _ _ _ c.check-refusal.ensures (g.stored ∙ rw e g.begun.leads)
