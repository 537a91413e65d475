-- Laws of a fault's number, and of what follows unless there is a fault.
use mathlib.Core.Path.{◌≡◌, refl, sym, ap, ◌∙◌}
use mathlib.Core.List.{[], ◌∷◌}
use borrow.Author.Tests.{eq-eqb, ne_eqb}
use Rattle.laws.specs.ChoiceLaws.{pick_true, pick_false}
use native.Mathlib.Omega.{arith}
use Prim.Native.Nat.{ℕ, ◌-◌, ◌<◌}
use lib.ListN.{get_or}
use Rattle.sheet_text.specs.Faults.{Fault, number_of, numbered, unless}
use Rattle.sheet_text.specs.declared.faults.Fault as found
use Rattle.sheet_text.specs.declared.faults.Wrong.{Wrong}
use Rattle.sheet_text.specs.declared.faults.Wrong.TheVariants.{Long, First, Number, Large, Few, Many, Rows}

-- Each is above the sheet's numbers.
pub number_high : (wrong : Wrong) → 30 < number_of wrong
number_high Long = omega arith
number_high First = omega arith
number_high Number = omega arith
number_high Large = omega arith
number_high Few = omega arith
number_high Many = omega arith
number_high Rows = omega arith

-- What is wrong is told by its number.
named : ℕ → Wrong
named n = get_or (Long ∷ First ∷ Number ∷ Large ∷ Few ∷ Many ∷ Rows ∷ []) (n - 31) Long

named_back : (wrong : Wrong) → named (number_of wrong) ≡ wrong
unfolding named
named_back Long = refl
named_back First = refl
named_back Number = refl
named_back Large = refl
named_back Few = refl
named_back Many = refl
named_back Rows = refl

same_wrong : (a b : Wrong) → number_of a ≡ number_of b → a ≡ b
same_wrong a b e = sym (named_back a) ∙ ap named e ∙ named_back b

pub same_fault : (a b : found.Fault) → numbered a ≡ numbered b → a ≡ b
same_fault a b e =
    let w = same_wrong a.wrong b.wrong (ap (λ (f : Fault). f.number) e) in
    λ i. record { wrong = w i; line = (e i).line; column = (e i).column }

module _ {A : Type 0} (good : A) (bad : Fault → A) (fault : Fault) where
  pub unless_faulty : (found : Fault) → fault ≡ found → (found.number ≡ 0 → ⊥) → bad found ≡ unless fault good bad
  unless_faulty found e d =
      ap bad (sym e) ∙ sym (pick_false _ _ _ (ne_eqb fault.number 0 (λ z. d (ap (λ (f : Fault). f.number) (sym e) ∙ z))))

  pub unless_clear : fault.number ≡ 0 → good ≡ unless fault good bad
  unless_clear z = sym (pick_true _ _ _ (eq-eqb fault.number 0 z))
