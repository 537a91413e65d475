use mathlib.Core.Path.{sym, ◌∙◌}
use Rattle.sheet_text.proofs.LineLaws as laws
use Rattle.sheet_text.proofs.lines.Lines.next_line.Goals as goal

pub returns-then-has_word : goal.returns-then-has_word
returns-then-has_word c =
    laws.found_here c.loop-line.invariant c.in-Some.line c.cut_line.new.self c.in-Some.ensures (sym c.has_word.ensures ∙ c.if-has_word.true)

pub loop-line-preserved : goal.loop-line-preserved
loop-line-preserved c =
    laws.looking_more c.loop-line.invariant c.in-Some.line c.cut_line.new.self c.in-Some.ensures (sym c.has_word.ensures ∙ c.if-has_word.false)

pub returns : goal.returns
returns c = laws.found_none c.loop-line.invariant c.cut_line.new.self c.in_default.ensures
