use Prim.Native.Nat.{◌≤◌}
use mathlib.Core.Path.{ap, sym}
use lib.ListN.{length}
use lib.Seq.{length-take-le}
use Rattle.sheet_text.specs.declared.Answer.{Answer}
use Rattle.sheet_text.proofs.Fits.{compose_length}
use Rattle.compose.proofs.main.Goals as goal
use Rattle.compose.proofs.main.Goals.{In-Ok}

-- The sheet fits the buffer that it was written to.
fits : (c : In-Ok) → c.in-Ok.length ≤ length c.compose.new.out
fits c = rw (ap (λ (a : Answer). a.length) c.in-Ok.ensures.value, c.compose.auto.out) (compose_length _ _)

pub slice_bounds-sheet-end : goal.slice_bounds-sheet-end
slice_bounds-sheet-end c = fits (goal.at.slice_bounds-sheet-end c).In-Ok

pub slice_bounds-write_all-end : goal.slice_bounds-write_all-end
slice_bounds-write_all-end c = sym (length-take-le _ _ (fits (goal.at.slice_bounds-write_all-end c).In-Ok))
