-- Sums of rows' terms: they rise, and grow by the rows that are stored.
use Prim.Native.Nat.{ℕ, ◌+◌, ◌/◌, ◌≤◌, ◌<◌}
use mathlib.Core.Path.{◌≡◌, ap, ◌∙◌}
use mathlib.Core.List.{List, [], ◌∷◌}
use native.Mathlib.Omega.{arith}
use native.Mathlib.Nat.{mul-le-mul_right}
use lib.ListN.{length, set, take}
use Rattle.std.specs.List.{sum_by}
use Rattle.std.proofs.lemmas.List.{take_more_set, take-set-le}
use Rattle.std.proofs.lemmas.List.Sums.{sum_by-cons, sum_by_push}
use Rattle.laws.specs.RoundingLaws.{div_mono}
use Rattle.laws.specs.LeastLaws.{Mono}
use Rattle.analysis.specs.declared.entries.Entry.{Entry}
use Rattle.analysis.specs.Entries.{entry_term, entry_sum}

pub sum_mono : (l : List Entry) → Mono (entry_sum l)
unfolding entry_sum
sum_mono [] x y h = omega arith
sum_mono (e ∷ l) x y h =
    let d : (x + e.lead) / e.period ≤ (y + e.lead) / e.period = div_mono e.period (omega arith) in
    omega (arith, sum_by-cons (entry_term x) e l, sum_by-cons (entry_term y) e l, sum_mono l x y h, mul-le-mul_right e.weight d)

module _ (l : List Entry) (i : ℕ) (e : Entry) (x : ℕ) where
  -- a row is stored at the end
  pub sum_more : i < length l → entry_sum (take (i + 1) (set l i e)) x ≡ entry_sum (take i l) x + entry_term x e
  unfolding entry_sum
  sum_more h = ap (sum_by (entry_term x)) (take_more_set l i e h) ∙ sum_by_push (entry_term x) (take i l) e

  -- or past it
  pub sum_kept : (n : ℕ) → n ≤ i → entry_sum (take n (set l i e)) x ≡ entry_sum (take n l) x
  sum_kept n h = ap (λ (k : List Entry). entry_sum k x) (take-set-le n l i e h)
