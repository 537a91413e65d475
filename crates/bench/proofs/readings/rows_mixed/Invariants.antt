use mathlib.Core.Path.{◌≡◌}
use Rattle.bench.specs.Readings.{mix_rows}
use Rattle.bench.proofs.readings.rows_mixed.Given as goal

abbrev pub invariant-loop-row : goal.invariant-loop-row
invariant-loop-row l = l.sum ≡ mix_rows l.digest l.fn.set l.row-index
