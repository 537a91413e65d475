-- The answer of a test, by its number; and what a release is tested for.
use Prim.Native.Nat.{ℕ, ◌+◌, ◌-◌, ◌≤◌, ◌<◌}
use mathlib.Core.Path.{◌≡◌, refl, ap, ◌∙◌}
use mathlib.Core.Bool.{Bool, true, false, ◌&&◌, and-false, and-eq-true_iff}
use borrow.Author.Tests.{lt-ltb, le-ltb}
use lib.Dec.{ltb}
use Rattle.std.specs.Prelude.{⊤, Result, Ok, Err, is_ok}
use Rattle.laws.specs.ChoiceLaws.{true_not_false}
use Rattle.sheet.specs.Refusals.{fault_number}
use Rattle.sheet.specs.declared.reasons.Reason.{Reason}
use Rattle.sheet.proofs.AnswerLaws.{some_number}
use Rattle.board.specs.declared.Job.{Job}
use Rattle.board.specs.Calls.{is_early}
use Rattle.board.proofs.Answers.{early_is}

pub no_fault : (a : Result ⊤ Reason) → is_ok a ≡ true → fault_number a ≡ 0
no_fault (Ok nothing) e = refl
no_fault (Err reason) e = true_not_false false e refl

pub a_fault : (a : Result ⊤ Reason) → is_ok a ≡ false → fault_number a ≡ 0 → ⊥
a_fault (Ok nothing) e = true_not_false true refl e
a_fault (Err reason) e = some_number reason

module _ (clock period : ℕ) (job : Job) (l : job.last ≤ clock) where
  pub early : job.ever ≡ true → clock - job.last < period → is_early clock period job ≡ true
  early e h = early_is clock period job l ∙ (and-eq-true_iff _ _).1 (e, lt-ltb _ _ h)

  pub late : period ≤ clock - job.last → is_early clock period job ≡ false
  late h = early_is clock period job l ∙ rw (le-ltb _ _ h) (and-false job.ever)

  pub never : job.ever ≡ false → is_early clock period job ≡ false
  never e = ap (λ (b : Bool). b && ltb clock (job.last + period)) e
