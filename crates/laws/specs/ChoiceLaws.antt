-- Laws of choices, and the chain of early returns that carries out a table.
use Rattle.std.specs.Prelude.{◌≡◌, refl, List, [], ◌∷◌, Bool, true, false, not, ℕ, suc, eqb}
use Rattle.std.proofs.Common.{sym, arith, lt-ltb, le-ltb, le-leb, eq-eqb, ne_eqb, eqb-true}
use Rattle.std.proofs.lemmas.Bool.{lt-leb, eqb-false}
use Rattle.laws.specs.Choice.{pick, Line, ◌gives◌, first_of}

pub pick_true {ℓ} : {A : Type ℓ} (t : Bool) (a b : A) → t ≡ true → pick t a b ≡ a
pick_true t a b h = rw h

pub pick_false {ℓ} : {A : Type ℓ} (t : Bool) (a b : A) → t ≡ false → pick t a b ≡ b
pick_false t a b h = rw h

pub true_not_false : {A : Type 0} (t : Bool) → t ≡ true → t ≡ false → A
true_not_false t p q = absurd (let z : ◌≡◌ {A = ℕ} 0 1 = cc in omega arith)

-- Two tests that hold together are the same.
pub both_ways : (a b : Bool) → (a ≡ true → b ≡ true) → (b ≡ true → a ≡ true) → a ≡ b
both_ways true b f g = sym (f refl)
both_ways false true f g = g refl
both_ways false false f g = refl

-- `search chain depth 16` goes down a table line by line, with the tests that led to a return.
pub hit : (t : Bool) (n : ℕ) (more : List Line) → t ≡ true → n ≡ first_of (t gives n ∷ more)
unfolding first_of
hit t n more h = rw h

pub miss : (t : Bool) (n k : ℕ) (more : List Line) → t ≡ false → k ≡ first_of more → k ≡ first_of (t gives n ∷ more)
unfolding first_of
miss t n k more h e = rw h e

pub none : 0 ≡ first_of []
unfolding first_of
none = refl

pub not_yes : (t : Bool) → t ≡ true → not t ≡ false
not_yes t h = rw h

pub not_no : (t : Bool) → t ≡ false → not t ≡ true
not_no t h = rw h

pub ruleset chain = (hit, miss, none, lt-ltb, le-ltb, le-leb, lt-leb, eq-eqb, ne_eqb, not_yes, not_no)

-- A table that gives 0 has no line whose test holds.
pub past : (t : Bool) (n : ℕ) (more : List Line) → first_of (t gives suc n ∷ more) ≡ 0 → (t ≡ false) × (first_of more ≡ 0)
unfolding first_of
past true n more h = absurd (omega (arith, h))
past false n more h = (refl, h)

-- A table that gives k has passed each line that gives another number, and holds at a last line that gives k.
pub passed : (t : Bool) (n k : ℕ) (more : List Line) → first_of (t gives n ∷ more) ≡ k → (n ≡ k → ⊥) → (t ≡ false) × (first_of more ≡ k)
unfolding first_of
passed true n k more h d = absurd (d h)
passed false n k more h d = (refl, h)

pub given : (t : Bool) (n : ℕ) → first_of (t gives suc n ∷ []) ≡ suc n → t ≡ true
unfolding first_of
given true n h = refl
given false n h = absurd (omega (arith, h))

-- The first of two that applies, by a number that is 0 where none does: where it is 0 both are.
pub both_zero : {A : Type 0} (number_of : A → ℕ) (a b : A) → number_of (pick (eqb (number_of a) 0) b a) ≡ 0 → (number_of a ≡ 0) × (number_of b ≡ 0)
both_zero number_of a b h = go (eqb (number_of a) 0) refl h
  where
    go : (t : Bool) → eqb (number_of a) 0 ≡ t → number_of (pick t b a) ≡ 0 → (number_of a ≡ 0) × (number_of b ≡ 0)
    go true e h = (eqb-true (number_of a) 0 e, h)
    go false e h = absurd (eqb-false (number_of a) 0 e h)
