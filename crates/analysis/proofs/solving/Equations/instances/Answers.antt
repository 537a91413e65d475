use Prim.Native.Nat.{ℕ, max, ◌+◌, ◌-◌, ◌*◌, ◌≤◌}
use mathlib.Core.Path.{◌≡◌, sym, ap, subst, ◌∙◌}
use native.Mathlib.Omega.{arith}
use Rattle.analysis.specs.Equations.{limit, response}
use Rattle.analysis.specs.Entries.{entry_equations}
use Rattle.analysis.specs.Parts.{said}
use Rattle.analysis.proofs.Lawful.{Lawful}
use Rattle.analysis.proofs.InstancesExist.{busy_solves}
use Rattle.analysis.proofs.InstanceLoop.{Done, done_first, done_last, done_turn, done_known, done_late, done_next}
use Rattle.analysis.proofs.EquationLaws.{held_lawful}
use Rattle.analysis.proofs.solving.Equations.instances.Goals as goal
use Rattle.analysis.proofs.solving.Equations.instances.Goals.{After-memory_end, Start}

lawful : (c : Start) → Lawful (said c.args.self.now)
lawful c = held_lawful _ _ _ _ c.args.self.now.fit

released : (c : After-memory_end) → (c.loop-q.q * c.args.self.now.row.period ≤ (c.memory_end.result + c.args.self.now.row.computation)) × ((c.memory_end.result + c.args.self.now.row.computation) ≤ limit)
unfolding entry_equations
released c =
    let k : Lawful (said c.args.self.now) = held_lawful _ _ _ _ c.args.self.now.fit in
    let b = busy_solves _ k _ c.requires in
    let i = done_known _ k _ _ c.requires _ _ _ c.loop-q.invariant c.loop-q-test.true in
    omega (arith, i.released, i.memory_after, i.finish_by, c.memory_end.ensures, b.from, b.within)

responds : (c : After-memory_end) → (c.memory_end.result + c.args.self.now.row.computation) - c.loop-q.q * c.args.self.now.row.period ≡ response (said c.args.self.now) c.loop-q.q
unfolding entry_equations response
responds c =
    ap (λ (g : ℕ). g + c.args.self.now.row.computation - c.loop-q.q * c.args.self.now.row.period) c.memory_end.ensures

pub overflow_add-n : goal.overflow_add-n
overflow_add-n c = omega (arith, (busy_solves _ (lawful (goal.at.overflow_add-n c).Start) _ c.requires).within, c.args.self.now.fit)

pub loop-q-init : goal.loop-q-init
loop-q-init c = done_first _ (lawful (goal.at.loop-q-init c).Start) _ _ c.requires

pub memory_end-requires : goal.memory_end-requires
unfolding entry_equations
memory_end-requires c =
    done_turn _ (lawful (goal.at.memory_end-requires c).Start) _ _ c.requires _ _ _ c.loop-q.invariant c.loop-q-test.true

pub overflow_add-finish : goal.overflow_add-finish
unfolding entry_equations
overflow_add-finish c =
    omega (arith, released (goal.at.overflow_add-finish c).After-memory_end)

pub overflow_sub-response : goal.overflow_sub-response
unfolding entry_equations
overflow_sub-response c =
    (released (goal.at.overflow_sub-response c).After-memory_end).0

pub returns-then-deadline-response : goal.returns-then-deadline-response
unfolding entry_equations response
returns-then-deadline-response c =
    sym (done_late _ (lawful (goal.at.returns-then-deadline-response c).Start) _ _ c.requires _ _ _ c.loop-q.invariant c.loop-q-test.true (omega (arith, responds (goal.at.returns-then-deadline-response c).After-memory_end, c.if-deadline-response.true)))

pub loop-q-preserved : goal.loop-q-preserved
unfolding entry_equations response
loop-q-preserved c =
    subst (λ (g : ℕ). Done (said c.args.self.now) c.args.self.now.row.deadline c.args.length c.max-best.result (g + c.args.self.now.row.computation) (c.loop-q.q + 1)) (sym c.memory_end.ensures)
    (done_next _ (lawful (goal.at.loop-q-preserved c).Start) _ _ c.requires _ _ _ c.loop-q.invariant c.loop-q-test.true _
    (c.max-best.ensures ∙ ap (max c.loop-q.best) (responds (goal.at.loop-q-preserved c).After-memory_end)) (omega (arith, responds (goal.at.loop-q-preserved c).After-memory_end, c.if-deadline-response.false)))

pub returns : goal.returns
unfolding entry_equations
returns c = sym (done_last _ (lawful (goal.at.returns c).Start) _ _ c.requires _ _ _ c.loop-q.invariant c.loop-q-test.false)
