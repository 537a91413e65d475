use mathlib.Core.Path.{sym}
use Prim.Native.Nat.{zero-le}
use lib.Seq.{length-take-le}
use Rattle.text.proofs.PuttingLaws.{puts_within}
use Rattle.compose.proofs.print_refusal.Goals as goal

pub slice_bounds-line-end : goal.slice_bounds-line-end
slice_bounds-line-end c = puts_within c.put_answer-end.ensures zero-le

pub slice_bounds-write_all-end : goal.slice_bounds-write_all-end
slice_bounds-write_all-end c = sym (length-take-le _ _ (puts_within c.put_answer-end.ensures zero-le))
