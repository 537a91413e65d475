use native.Mathlib.Omega.{arith}
use Prim.Native.Nat.{ℕ}
use mathlib.Core.Path.{refl, ap, ◌∙◌}
use Rattle.std.proofs.lemmas.Result.{err_from_is_err_and}
use Rattle.sheet_text.specs.Faults.{FIRST, fault_at}
use Rattle.sheet_text.specs.Meaning.{meant_nothing}
use Rattle.sheet_text.proofs.FaultLaws.{number_high}
use Rattle.sheet_text.proofs.TextLaws.{meaning_long, meaning_none, meaning_faulty, meaning_good}
use Rattle.sheet_text.proofs.meaning_of.Goals as goal

pub returns-then-text-gt-MOST_BYTES : goal.returns-then-text-gt-MOST_BYTES
returns-then-text-gt-MOST_BYTES c = meaning_long _ (omega arith)

pub returns-in_default : goal.returns-in_default
returns-in_default c =
    ap (λ (n : ℕ). meant_nothing (fault_at FIRST n 1)) c.in_default.ensures.1 ∙ meaning_none _ (omega arith) c.in_default.ensures.0

pub returns-in_err-processors : goal.returns-in_err-processors
returns-in_err-processors c =
    let p = err_from_is_err_and c.from_residual.result c.from_residual.ensures.1 in
    rw (p.1, p.2)
    (meaning_faulty _ (omega arith) c.in-Some.ensures.0 c.in_err-processors.ensures (λ z. omega (arith, number_high c.in_err-processors.field-0.0.wrong)))

pub returns : goal.returns
returns c = c.rows.ensures ∙ meaning_good _ (omega arith) c.in-Some.ensures.0 c.in_ok-processors.ensures refl
