use Prim.Native.Nat.{◌+◌, ◌≤◌, ◌<◌}
use mathlib.Core.Path.{◌≡◌, sym, ◌∙◌}
use native.Mathlib.Omega.{arith}
use Rattle.analysis.specs.Equations.{limit}
use Rattle.analysis.specs.Entries.{climb_at}
use Rattle.analysis.specs.Parts.{Warm}
use Rattle.analysis.proofs.EquationLaws.{climb_mono, fixed_most}
use Rattle.analysis.proofs.WarmStarts.{warm_within, warm_here, warm_found, warm_on}
use Rattle.analysis.proofs.solving.Equations.solve.Goals as goal
use Rattle.analysis.proofs.solving.Equations.solve.Goals.{After-sum-in-loop-fixed}

-- the next number is the right side of the equation
climbs : (c : After-sum-in-loop-fixed) → (c.args.fixed + c.sum.result + c.sum-in-loop-fixed.result) ≡ climb_at c.args.self.now.ranked.now c.args.higher.now c.args.fixed c.loop-fixed.x
unfolding climb_at
climbs c =
    omega (arith, c.sum.ensures.value, c.sum-in-loop-fixed.ensures.value)

within : (c : After-sum-in-loop-fixed) → (c.args.fixed + c.sum.result + c.sum-in-loop-fixed.result) ≤ limit
within c =
    omega (arith, climbs c, warm_within _ (climb_mono _ _ _) _ c.loop-fixed.invariant)

on : (c : After-sum-in-loop-fixed) → ((c.args.fixed + c.sum.result + c.sum-in-loop-fixed.result) ≡ c.loop-fixed.x → ⊥) → Warm (climb_at c.args.self.now.ranked.now c.args.higher.now c.args.fixed) ((c.args.fixed + c.sum.result + c.sum-in-loop-fixed.result)) × (c.loop-fixed.x < (c.args.fixed + c.sum.result + c.sum-in-loop-fixed.result))
on c =
    λ n. rw (climbs c) (warm_on _ (climb_mono _ _ _) _ c.loop-fixed.invariant (λ e. n (climbs c ∙ sym e)))

pub sum-requires-clause-within : goal.sum-requires-clause-within
sum-requires-clause-within c = warm_here _ _ c.loop-fixed.invariant

pub overflow_add-work : goal.overflow_add-work
overflow_add-work c = omega (arith, fixed_most _ _ _ _ c.loop-fixed.invariant, c.sum.ensures.most)

pub sum-requires-in-loop-fixed-clause-within : goal.sum-requires-in-loop-fixed-clause-within
sum-requires-in-loop-fixed-clause-within c = warm_here _ _ c.loop-fixed.invariant

pub overflow_add-y : goal.overflow_add-y
unfolding climb_at
overflow_add-y c =
    omega (arith, within (goal.at.overflow_add-y c).After-sum-in-loop-fixed)

pub returns-then-y-from-clause-at : goal.returns-then-y-from-clause-at
unfolding climb_at
returns-then-y-from-clause-at c =
    warm_found _ (climb_mono _ _ _) _ c.loop-fixed.invariant (sym (c.if-y-from.true ∙ c.from.ensures) ∙ climbs (goal.at.returns-then-y-from-clause-at c).After-sum-in-loop-fixed)

pub overflow_cast-x : goal.overflow_cast-x
unfolding climb_at
overflow_cast-x c =
    omega (arith, within (goal.at.overflow_cast-x c).After-sum-in-loop-fixed)

pub loop-fixed-smaller : goal.loop-fixed-smaller
unfolding climb_at
loop-fixed-smaller c =
    omega (arith, within (goal.at.loop-fixed-smaller c).After-sum-in-loop-fixed, (on (goal.at.loop-fixed-smaller c).After-sum-in-loop-fixed (λ e. c.if-y-from.false (e ∙ sym c.from.ensures))).1)

pub loop-fixed-preserved : goal.loop-fixed-preserved
unfolding climb_at
loop-fixed-preserved c =
    (on (goal.at.loop-fixed-preserved c).After-sum-in-loop-fixed (λ e. c.if-y-from.false (e ∙ sym c.from.ensures))).0
