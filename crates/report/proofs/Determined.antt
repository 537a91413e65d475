-- How far the contract reaches: two answers that meet it are equal, and so are two final buffers.
use Prim.Native.Nat.{ℕ}
use mathlib.Core.Path.{◌≡◌}
use mathlib.Core.List.{List}
use Rattle.text.specs.Putting.{Puts}
use Rattle.text.proofs.Determined.{puts_determined}
use Rattle.report.specs.Report.{report_of}

pub report_determined : (sheet buffer after after' : List ℕ) (end end' : ℕ)
    → Puts (report_of sheet) buffer 0 after end
    → Puts (report_of sheet) buffer 0 after' end'
    → (after ≡ after') × (end ≡ end')
report_determined sheet buffer after after' end end' = puts_determined
