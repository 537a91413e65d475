use native.Mathlib.Omega.{arith}
use mathlib.Core.Path.{◌≡◌, refl, ap, ◌∙◌}
use lib.ListN.{drop, length-drop}
use Rattle.sheet_text.specs.Words.{blanks_of}
use Rattle.sheet_text.proofs.WordLaws.{to_end, field_none, field_good, field_bad}
use Rattle.sheet_text.proofs.lines.Line.next_field.Goals as goal
use Rattle.sheet_text.proofs.lines.Line.next_field.Goals.{After-length_before}

blanks : (c : After-length_before) → c.length_before.result ≡ blanks_of (drop c.args.place c.args.self.now.content.now)
blanks c = c.length_before.ensures.value ∙ ap blanks_of (to_end c.args.self.now.content.now c.args.place)

pub returns-then-self-start : goal.returns-then-self-start
returns-then-self-start c =
    let left = drop c.args.place c.args.self.now.content.now in
    c.fault.ensures
    ∙ field_none c.args.most _ c.args.place left
    (omega (arith, blanks (goal.at.returns-then-self-start c).After-length_before, length-drop c.args.place c.args.self.now.content.now))

pub returns-in-Ok : goal.returns-in-Ok
returns-in-Ok c =
    let content = c.args.self.now.content.now in
    field_good content c.args.place c.requires _ _ _ (blanks (goal.at.returns-in-Ok c).After-length_before) refl c.length_before-2.ensures.value
    c.args.most (omega arith) c.args.self.now.number c.in-Ok.value c.in-Ok.ensures

pub returns-in-Err : goal.returns-in-Err
returns-in-Err c =
    let content = c.args.self.now.content.now in
    c.fault-in-Err.ensures
    ∙ field_bad content c.args.place c.requires _ _ _ (blanks (goal.at.returns-in-Err c).After-length_before) refl c.length_before-2.ensures.value
    c.args.most (omega arith) c.args.self.now.number c.in-Err.wrong c.in-Err.ensures
