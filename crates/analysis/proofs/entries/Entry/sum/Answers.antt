use mathlib.Core.Path.{refl, ap}
use native.Mathlib.Omega.{arith}
use native.Mathlib.Nat.{suc-mul}
use native.Mathlib.Numerals.{add-one}
use Rattle.std.proofs.lemmas.List.Sums.{sum_by_more}
use Rattle.analysis.specs.Entries.{entry_term, entry_sum, most_term}
use Rattle.analysis.proofs.entries.Entry.sum.Goals as goal

pub loop-entry-init : goal.loop-entry-init
unfolding entry_sum
loop-entry-init c = (refl, omega arith)

pub loop-entry-preserved : goal.loop-entry-preserved
unfolding entry_sum
loop-entry-preserved c =
    let more = sum_by_more (entry_term c.args.x) c.args.entries.now c.loop-entry.entry-index c.entry-item.result (omega (arith, c.loop-entry-test.true)) in (
      omega (arith, more, c.loop-entry.invariant.0, c.term-sum.ensures.value, ap (entry_term c.args.x) c.entry-item.is),
      rw add-one (omega (arith, suc-mul c.loop-entry.entry-index most_term, c.loop-entry.invariant.1, c.term-sum.ensures.most)),
    )
