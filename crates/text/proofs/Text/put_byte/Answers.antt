use native.Mathlib.Omega.{arith}
use mathlib.Core.Path.{refl}
use Rattle.text.proofs.PuttingLaws as laws
use Rattle.text.proofs.Text.put_byte.Goals as goal

pub returns-then-self : goal.returns-then-self
returns-then-self c = record { same_buffer = refl; puts = laws.puts_byte _ _ _ (omega arith) }

pub returns-else-self : goal.returns-else-self
returns-else-self c = record { same_buffer = refl; puts = laws.puts_full _ _ _ (omega arith) }
