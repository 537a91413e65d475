use mathlib.Core.Path.{◌≡◌, sym, ◌∙◌}
use Rattle.std.proofs.Common.{rules, Some, None, Err}
use Rattle.analysis.specs.declared.Fault.TheVariants.{Busy}
use Rattle.analysis.specs.Equations.{busy_length}
use Rattle.analysis.specs.Parts.{said}
use Rattle.analysis.proofs.VerdictLaws.{verdict_busy, verdict_found}
use Rattle.analysis.proofs.solving.Equations.verdict.Goals as goal

pub returns-in_err-length : goal.returns-in_err-length
returns-in_err-length c =
    let none : busy_length (said c.args.self.now) ≡ None = search rules in
    let busy : c.from_residual.result ≡ Err Busy = search rules in
    busy ∙ sym (verdict_busy _ _ none)

pub returns : goal.returns
returns c =
    let found : busy_length (said c.args.self.now) ≡ Some c.in_ok-length.length = search rules in
    c.instances.ensures ∙ sym (verdict_found _ _ _ found)
