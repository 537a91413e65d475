use mathlib.Core.Path.{◌≡◌}
use Rattle.bench.specs.Calls.{mix_jobs}
use Rattle.bench.proofs.calls.state_mixed.Given as goal

abbrev pub invariant-loop-job : goal.invariant-loop-job
invariant-loop-job l = l.sum ≡ mix_jobs l.digest l.fn.s l.job-index
