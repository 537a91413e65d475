use Prim.Native.Nat.{ℕ, ◌+◌, ◌*◌}
use mathlib.Core.List.{[]}
use mathlib.Core.Path.{◌≡◌, ap, ◌∙◌}
use native.Mathlib.Omega.{arith}
use Rattle.sheet.specs.Ranges.{length_of}
use Rattle.analysis.specs.Entries.{climb_at}
use Rattle.analysis.specs.Parts.{solution, Warm}
use Rattle.analysis.proofs.WarmStarts.{warm_here}
use Rattle.analysis.proofs.EquationLaws.{fixed_most, start_begins, end_begins, end_solved, no_end}
use Rattle.analysis.proofs.solving.Equations.memory_end.Goals as goal
use Rattle.analysis.proofs.solving.Equations.memory_end.Goals.{After-from-4, After-from-5}

-- what the first search adds to
fixed : (c : After-from-4) → (c.from-3.result + c.from-4.result * (c.from.result + c.from-2.result)) ≡ c.args.self.now.blocked + c.args.q * length_of c.args.self.now.row
fixed c = cc

-- where the second begins
ends : (c : After-from-5) → Warm (climb_at c.args.self.now.ranked.now [] (c.solve-start.result.work + c.args.self.now.row.memory)) (c.solve-start.result.at + c.args.self.now.row.memory)
ends c =
    let e : (c.from-3.result + c.from-4.result * (c.from.result + c.from-2.result)) ≡ c.args.self.now.blocked + c.args.q * length_of c.args.self.now.row = cc in
    end_begins _ _ _ _ c.args.self.now.fit _ _ c.requires _ e _ _ c.solve-start.ensures.at c.solve-start.ensures.work

pub solve-start-requires-clause-warm : goal.solve-start-requires-clause-warm
solve-start-requires-clause-warm c = start_begins _ _ _ _ c.args.self.now.fit _ _ c.requires _ (fixed (goal.at.solve-start-requires-clause-warm c).After-from-4)

pub returns-then-memory-eq0 : goal.returns-then-memory-eq0
returns-then-memory-eq0 c =
    no_end _ _ _ _ c.args.self.now.fit _ _ c.requires _ (fixed (goal.at.returns-then-memory-eq0 c).After-from-4) _ _ c.solve-start.ensures.at c.solve-start.ensures.work c.if-memory-eq0.true

pub overflow_add-start : goal.overflow_add-start
overflow_add-start c = omega (arith, c.from-5.ensures, fixed_most _ _ _ _ (ends (goal.at.overflow_add-start c).After-from-5))

pub overflow_add-start-2 : goal.overflow_add-start-2
overflow_add-start-2 c = omega (arith, warm_here _ _ (ends (goal.at.overflow_add-start-2 c).After-from-5))

pub solve-requires-clause-warm : goal.solve-requires-clause-warm
solve-requires-clause-warm c = rw c.from-5.ensures (ends (goal.at.solve-requires-clause-warm c).After-from-5)

pub returns : goal.returns
returns c =
    c.solve.ensures.at
    ∙ ap (λ (m : ℕ). solution (climb_at c.args.self.now.ranked.now [] (c.solve-start.result.work + m))) c.from-5.ensures
    ∙ end_solved _ _ _ _ c.args.self.now.fit _ _ c.requires _ (fixed (goal.at.returns c).After-from-4) _ _ c.solve-start.ensures.at c.solve-start.ensures.work
