-- Laws of showing: which rows are shown.
use mathlib.Core.Path.{◌≡◌}
use mathlib.Core.Bool.{true, false}
use mathlib.Core.List.{List}
use Prim.Native.Nat.{ℕ, ◌<◌, ◌≤◌}
use borrow.Author.Tests.{eq-eqb, ne_eqb, lt-ltb, le-ltb}
use Rattle.sheet.specs.Layout.{count_of}
use Rattle.sheet.specs.Reading.{read_refusal}
use Rattle.sheet.specs.Showing.{is_shown}

pub not_read : (s : List ℕ) (r : ℕ) → ((read_refusal s).number ≡ 0 → ⊥) → is_shown s r ≡ false
unfolding is_shown
not_read s r h = rw (ne_eqb (read_refusal s).number 0 h)

pub not_below : (s : List ℕ) (r : ℕ) → (read_refusal s).number ≡ 0 → count_of s ≤ r → is_shown s r ≡ false
unfolding is_shown
not_below s r h l = rw (eq-eqb (read_refusal s).number 0 h, le-ltb r (count_of s) l)

pub is_shown_lem : (s : List ℕ) (r : ℕ) → (read_refusal s).number ≡ 0 → r < count_of s → is_shown s r ≡ true
unfolding is_shown
is_shown_lem s r h l = rw (eq-eqb (read_refusal s).number 0 h, lt-ltb r (count_of s) l)
