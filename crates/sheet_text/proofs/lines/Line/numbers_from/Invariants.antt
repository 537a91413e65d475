use Rattle.sheet_text.proofs.NumberLaws as laws
use Rattle.sheet_text.proofs.lines.Line.numbers_from.Given as goal

abbrev pub invariant-loop-k : goal.invariant-loop-k
invariant-loop-k g l = laws.Taken g.row.COUNT l.self.number l.self.content.now l.place l.value-items l.at l.k
