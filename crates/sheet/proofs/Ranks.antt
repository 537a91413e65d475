-- Rows stand in the order of their processors.
use Prim.Native.Nat.{ℕ, zero, suc, ◌≤◌, ◌<◌}
use mathlib.Core.Path.{◌≡◌}
use mathlib.Core.Logic.{⊎_elim}
use native.Mathlib.Omega.{arith}
use Rattle.laws.specs.RoundingLaws.{split}
use Rattle.sheet.specs.Ranges.{row_in, WellFormed}
use Rattle.sheet.specs.declared.Set.{Set}

-- Processors never fall from one row to a later one.
pub processors_rise : (set : Set) → WellFormed set → (i j : ℕ) → i ≤ j → j < set.count → (row_in set i).processor ≤ (row_in set j).processor
processors_rise set w i zero h l = let e : i ≡ 0 = omega arith in rw e (omega arith)
processors_rise set w i (suc j) h l =
    ⊎_elim
    (λ (a : i ≤ j). omega (arith, processors_rise set w i j a (omega arith), (w.row (suc j) l).after))
    (λ (a : j < i). let e : i ≡ suc j = omega arith in rw e (omega arith))
    (split i j)
