use mathlib.Core.Path.{◌≡◌}
use Rattle.sheet.specs.Reading.{read_sheet}
use Rattle.bench.specs.Readings.{readings}
use Rattle.bench.proofs.readings.bench_read.Given as goal

abbrev pub invariant-loop : goal.invariant-loop
invariant-loop l = (l.digest ≡ readings l.sheet l.counter) × (l.reading ≡ read_sheet l.sheet)
