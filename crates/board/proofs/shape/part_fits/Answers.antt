use Prim.Native.Nat.{ℕ}
use mathlib.Core.Path.{◌≡◌, refl, sym, ap, ◌∙◌}
use mathlib.Core.Bool.{true, false, not}
use lib.Dec.{eqb}
use borrow.Author.Tests.{eq-eqb, ne_eqb}
use Rattle.std.specs.Prelude.{Option, Some, None, ⊤, Result, is_ok}
use Rattle.std.specs.Option.{option_eq}
use Rattle.sheet.specs.Refusals.{fault_number}
use Rattle.sheet.specs.declared.reasons.Reason.{Reason}
use Rattle.board.specs.States.{holds}
use Rattle.board.specs.Shape.{job_fits}
use Rattle.board.specs.Parts.{part_fits}
use Rattle.board.proofs.Faults.{no_fault, a_fault}
use Rattle.board.proofs.shape.part_fits.Goals as goal

same_row : (hand : Option ℕ) (i : ℕ) → option_eq eqb hand (Some i) ≡ holds hand i
same_row None i = refl
same_row (Some k) i = refl

-- The sheet's test of the row, as a test of its number.
failing : (fault : Result ⊤ Reason) (number : ℕ) → fault_number fault ≡ number → is_ok fault ≡ false → eqb number 0 ≡ false
failing fault number e h = ne_eqb _ _ (λ z. a_fault fault h (e ∙ z))

passing : (fault : Result ⊤ Reason) (number : ℕ) → fault_number fault ≡ number → is_ok fault ≡ true → eqb number 0 ≡ true
passing fault number e h = eq-eqb _ _ (sym e ∙ no_fault fault h)

pub returns-then-is_err : goal.returns-then-is_err
unfolding part_fits
returns-then-is_err c = rw (failing _ _ c.row_fault.ensures (c.is_err.ensures.negation ∙ ap not c.if-is_err.true))

pub returns-then-is_kept : goal.returns-then-is_kept
unfolding part_fits job_fits
returns-then-is_kept c =
    rw (c.fits.ensures, c.eq.ensures, same_row, passing _ _ c.row_fault.ensures (c.is_err.ensures.negation ∙ ap not c.if-is_err.false), sym c.is_kept.ensures ∙ c.if-is_kept.true)

pub returns-else-is_kept : goal.returns-else-is_kept
unfolding part_fits job_fits
returns-else-is_kept c =
    rw (passing _ _ c.row_fault.ensures (c.is_err.ensures.negation ∙ ap not c.if-is_err.false), sym c.is_kept.ensures ∙ c.if-is_kept.false) c.if-is_kept.false
