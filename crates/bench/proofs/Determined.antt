-- How far the contracts reach: two results that meet one are equal, and two runs of the analysis leave the same in every lent
-- place. The exports of the crate bench_c state the same contracts, and the crate bench_callers that of the calls.
use mathlib.Core.Path.{◌≡◌, sym, ◌∙◌}
use mathlib.Core.List.{List}
use Prim.Native.Nat.{ℕ}
use lib.ListN.{length}
use Rattle.analysis.specs.Analysis.{analyse_refusal, analysed}
use Rattle.bench.specs.Calls.{with_calls, begin, outcome}
use Rattle.bench.specs.Readings.{readings_outcome}

calls_determined : (sheet : List ℕ) (releases round calls a b : ℕ)
    → a ≡ outcome (with_calls releases round calls (begin sheet)) → b ≡ outcome (with_calls releases round calls (begin sheet)) → a ≡ b
calls_determined sheet releases round calls a b p q = p ∙ sym q

readings_determined : (sheet : List ℕ) (calls a b : ℕ) → a ≡ readings_outcome sheet calls → b ≡ readings_outcome sheet calls → a ≡ b
readings_determined sheet calls a b p q = p ∙ sym q

-- What a run of the analysis leaves behind: the bounds, and the refusal's three numbers.
record Leaves (sheet before after : List ℕ) (number row instance : ℕ) : Type 0 where
  bounds : after ≡ analysed sheet before
  number_is : number ≡ (analyse_refusal sheet (length before)).number
  row_is : row ≡ (analyse_refusal sheet (length before)).row
  instance_is : instance ≡ (analyse_refusal sheet (length before)).instance

analyse_determined : (sheet before a b : List ℕ) (n m r s i j : ℕ) → Leaves sheet before a n r i → Leaves sheet before b m s j
    → (a ≡ b) × (n ≡ m) × (r ≡ s) × (i ≡ j)
analyse_determined sheet before a b n m r s i j p q =
    (p.bounds ∙ sym q.bounds, p.number_is ∙ sym q.number_is, p.row_is ∙ sym q.row_is, p.instance_is ∙ sym q.instance_is)
