use Prim.Native.Nat.{ℕ}
use mathlib.Core.Path.{refl, ap, ◌∙◌}
use native.Mathlib.Omega.{arith}
use lib.ListN.{drop}
use Rattle.std.proofs.Common.{false-eqb}
use Rattle.sheet_text.proofs.WordLaws.{to_end, content_part, after_part}
use Rattle.sheet_text.proofs.lines.Lines.cut_line.Goals as goal

pub returns : goal.returns
returns c =
    let text = c.args.self.now.left.now in
    let end = c.length_before-end.ensures.value in (
      omega (arith, false-eqb _ 0 c.if-is_empty.ensures),
      refl,
      content_part text _ _ end c.length_before-stop.ensures.value,
      refl,
      to_end text c.min-after.result ∙ ap (λ (n : ℕ). drop n text) c.min-after.ensures ∙ after_part text _ end,
    )
