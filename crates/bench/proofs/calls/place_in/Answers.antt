use Rattle.std.proofs.Common.{◌≡◌, ◌∙◌, sym, ap, ℕ, ◌%◌, ◌<◌, Option, None, Some, arith}
use Rattle.std.proofs.Math.Nat.{mod-zero}
use Rattle.std.specs.Option.{SomeIff, unwrap_or}
use Rattle.bench.proofs.calls.place_in.Goals as goal

in_round : (rest : Option ℕ) (round call : ℕ) → SomeIff rest (0 < round) (call % round) → unwrap_or rest call ≡ call % round
in_round None round call none = let endless : round ≡ 0 = omega arith in
    sym (ap (λ (z : ℕ). call % z) endless ∙ mod-zero call)
in_round (Some place) round call some = some.1

pub returns : goal.returns
returns c = c.unwrap_or.ensures ∙ in_round _ _ _ c.checked_rem.ensures
