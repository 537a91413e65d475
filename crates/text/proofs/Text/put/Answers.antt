use native.Mathlib.Omega.{arith}
use mathlib.Core.Path.{refl}
use Rattle.text.proofs.PuttingLaws as laws
use Rattle.text.proofs.Text.put.Goals as goal

pub returns-then-self : goal.returns-then-self
returns-then-self c = record { same_buffer = refl; puts = laws.puts_full _ _ _ (omega arith) }

pub returns : goal.returns
returns c =
    let part = laws.puts_part _ _ _ _ _ _ (omega arith) (omega arith) c.copy_from_slice.ensures.after in
    record { same_buffer = refl; puts = part }
