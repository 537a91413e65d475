use mathlib.Core.Path.{◌∙◌, sym}
use Rattle.board.proofs.Standings.{turn_done, turn_on}
use Rattle.board.proofs.Job.turned.Goals as goal

pub returns-then-is_absent : goal.returns-then-is_absent
returns-then-is_absent c = let a = c.args in
    let e = sym c.is_absent.ensures ∙ c.if-is_absent.true in
    let f = simp (c.stepped-standing.ensures, c.is_memory.ensures, c.begun-begun.ensures) at e in
    simp (c.finished.ensures, c.is_memory.ensures, c.begun-begun.ensures) (sym (turn_done a.k a.row a.self a.free a.clock c.requires.live f))

pub returns-else-is_absent : goal.returns-else-is_absent
returns-else-is_absent c = let a = c.args in
    let e = sym c.is_absent.ensures ∙ c.if-is_absent.false in
    let f = simp (c.stepped-standing.ensures, c.is_memory.ensures, c.begun-begun.ensures) at e in
    simp (c.stepped-standing.ensures, c.is_memory.ensures, c.begun-begun.ensures) (sym (turn_on a.k a.row a.self a.free a.clock c.requires.live f))
