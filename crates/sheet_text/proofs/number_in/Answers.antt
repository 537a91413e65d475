use native.Mathlib.Omega.{arith}
use Prim.Native.Nat.{ℕ, ◌+◌, ◌*◌, ◌-◌}
use mathlib.Core.Path.{◌≡◌, sym, ap, ◌∙◌}
use mathlib.Core.Bool.{true}
use lib.ListN.{get_or, drop}
use Rattle.sheet_text.specs.Words as spec
use Rattle.sheet_text.specs.Parts as parts
use Rattle.sheet_text.proofs.WordLaws as laws
use Rattle.sheet_text.proofs.number_in.Goals as goal
use Rattle.sheet_text.proofs.number_in.Goals.{After-loop-byte}

-- At the end of the word.
digits : (c : After-loop-byte) → spec.all_digits c.args.word.now ≡ true
digits c = c.loop-byte.invariant.digits ∙ laws.digits_end _ c.loop-byte.byte-index (omega arith)

value_is : (c : After-loop-byte) → parts.capped (spec.value_of c.args.word.now) ≡ c.loop-byte.value
value_is c =
    let l = c.loop-byte in
    l.invariant.value_is
    ∙ ap parts.capped (laws.value_end l.value c.args.word.now l.byte-index (omega arith))
    ∙ laws.capped_low l.value l.invariant.most

pub returns-then-not-is_ascii_digit : goal.returns-then-not-is_ascii_digit
returns-then-not-is_ascii_digit c =
    let l = c.loop-byte in
    laws.number_bad _ _ (l.invariant.digits ∙ laws.digits_stop c.args.word.now l.byte-index (omega arith) (sym c.is_ascii_digit.ensures.value ∙ c.if-not-is_ascii_digit.true))

pub loop-byte-preserved : goal.loop-byte-preserved
loop-byte-preserved c =
    let l = c.loop-byte in
    let w = c.args.word.now in
    let i = l.byte-index in
    let v = l.value * 10 + (get_or w i 0 - 48) in
    let capped : c.min-value.result ≡ parts.capped v = omega (arith, c.min-value.ensures, c.from.ensures, laws.capped_min v) in
    record {
      within = omega arith;
      most = omega (arith, capped, laws.capped_most v);
      digits = l.invariant.digits ∙ laws.digits_more w i (omega arith) (sym c.is_ascii_digit.ensures.value ∙ c.if-not-is_ascii_digit.false);
      value_is =
          l.invariant.value_is
          ∙ ap parts.capped (laws.value_more l.value w i (omega arith))
          ∙ laws.value_capped v (drop (i + 1) w)
          ∙ ap (λ (x : ℕ). parts.capped (spec.value_from x (drop (i + 1) w))) (sym capped);
    }

pub returns-then-from-value : goal.returns-then-from-value
returns-then-from-value c =
    let end = (goal.at.returns-then-from-value c).After-loop-byte in
    laws.number_large c.args.most c.args.word.now (omega arith) (digits end) (omega (arith, value_is end, c.from-2.ensures))

pub returns : goal.returns
returns c =
    let end = (goal.at.returns c).After-loop-byte in
    ap (λ (v : ℕ). record { fault = 0; value = v }) (sym (value_is end))
    ∙ laws.number_good c.args.most c.args.word.now (omega arith) (digits end) (omega (arith, value_is end, c.from-2.ensures))
