use mathlib.Core.Path.{ap, ◌∙◌}
use native.Mathlib.Omega.{arith}
use Rattle.std.proofs.lemmas.Result.{err_from_is_err_and}
use Rattle.sheet_text.specs.Words.{blanks_of}
use Rattle.sheet_text.specs.Meaning.{faulty_numbers}
use Rattle.sheet_text.proofs.WordLaws.{to_end}
use Rattle.sheet_text.proofs.NumberLaws as laws
use Rattle.sheet_text.proofs.lines.Line.numbers_from.Goals as goal

pub loop-k-init : goal.loop-k-init
loop-k-init g c = laws.taken_none c.requires

pub returns-in_err-word : goal.returns-in_err-word
returns-in_err-word g c =
    let p = err_from_is_err_and c.from_residual.result c.from_residual.ensures.1 in
    let t = c.loop-k.invariant in
    rw (p.1, p.2) (laws.taken_stop t (omega (arith, t.filled.long)) c.number_limit.ensures _ c.in_err-word.ensures)

pub loop-k-preserved : goal.loop-k-preserved
loop-k-preserved g c =
    let t = c.loop-k.invariant in
    laws.taken_more t (omega (arith, t.filled.long)) c.number_limit.ensures _ c.in_ok-word.ensures

pub returns-then-next-self : goal.returns-then-next-self
returns-then-next-self g c =
    let content = c.args.self.now.content.now in
    let t = c.loop-k.invariant in
    ap faulty_numbers c.fault.ensures
    ∙ laws.taken_many t (omega (arith, t.filled.long)) (c.length_before.ensures.value ∙ ap blanks_of (to_end content c.loop-k.at)) (omega arith)

pub returns : goal.returns
returns g c =
    let content = c.args.self.now.content.now in
    let t = c.loop-k.invariant in
    laws.taken_all t (omega (arith, t.filled.long)) (c.length_before.ensures.value ∙ ap blanks_of (to_end content c.loop-k.at)) (omega arith)
