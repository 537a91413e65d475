use mathlib.Core.Path.{◌≡◌}
use Rattle.bench.specs.Calls.{with_calls, begin}
use Rattle.bench.proofs.calls.bench_board.Given as goal

abbrev pub invariant-loop-call : goal.invariant-loop-call
invariant-loop-call l = record { state = l.state; digest = l.digest } ≡ with_calls l.releases l.round l.call (begin l.sheet)
