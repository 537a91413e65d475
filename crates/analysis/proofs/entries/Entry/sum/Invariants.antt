use Prim.Native.Nat.{◌*◌, ◌≤◌}
use mathlib.Core.Path.{◌≡◌}
use lib.ListN.{take}
use Rattle.analysis.specs.Entries.{entry_sum, most_term}
use Rattle.analysis.proofs.entries.Entry.sum.Given as goal

abbrev pub invariant-loop-entry : goal.invariant-loop-entry
invariant-loop-entry l = (l.sum ≡ entry_sum (take l.entry-index l.entries) l.x) × (l.sum ≤ l.entry-index * most_term)
