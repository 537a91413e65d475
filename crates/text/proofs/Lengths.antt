-- How long what is printed can be.
use Prim.Native.Nat.{ℕ, zero, suc, ◌*◌, ◌≤◌, ◌<◌}
use mathlib.Core.List.{List}
use native.Mathlib.Nat.{suc-mul}
use native.Mathlib.Omega.{arith}
use lib.ListN.{length, length-append}
use Rattle.sheet.specs.declared.Refusal.{Refusal}
use Rattle.sheet.proofs.SmallRefusals.{Small}
use Rattle.text.specs.Decimal.{decimal}
use Rattle.text.specs.Lines.{lines_to}
use Rattle.text.specs.Refusing.{refused_line}
use Rattle.text.proofs.DecimalLaws.{decimal_short}

pub two_digits : (n : ℕ) → n < 100 → length (decimal n) ≤ 2
two_digits n h = decimal_short 1 n h

pub seven_digits : (n : ℕ) → n < 10000000 → length (decimal n) ≤ 7
seven_digits n h = decimal_short 6 n h

pub refused_line_lem : (r : Refusal) → Small r → length (refused_line r) ≤ 30
unfolding refused_line
refused_line_lem r s =
    simp length-append (omega (arith, two_digits r.number s.number, two_digits r.row s.row, seven_digits r.instance s.instance))

pub lines_short : (line_of : ℕ → List ℕ) (most n : ℕ) → ((i : ℕ) → i < n → length (line_of i) ≤ most) → length (lines_to line_of n) ≤ n * most
unfolding lines_to
lines_short line_of most zero h = omega arith
lines_short line_of most (suc n) h =
    omega (arith, length-append (lines_to line_of n) (line_of n), lines_short line_of most n (λ i l. h i (omega arith)), h n (omega arith), suc-mul n most)
