-- The fields of a refusal are small: what is printed of one has few digits.
use Prim.Native.Nat.{ℕ, ◌≤◌, ◌<◌}
use mathlib.Core.Path.{◌≡◌}
use mathlib.Core.Bool.{Bool, true, false, not}
use mathlib.Core.List.{List, [], ◌∷◌}
use native.Mathlib.Omega.{arith}
use native.Mathlib.Decide.{ℕ_discrete, dec_lt}
use lib.Dec.{eqb}
use borrow.Author.Tests.{eq-eqb, ne_eqb, lt-ltb, le-ltb}
use Rattle.laws.specs.Choice.{pick, Line, ◌gives◌, first_of}
use Rattle.laws.specs.Search.{first}
use Rattle.sheet.specs.Refusals.{refused, or_else}
use Rattle.sheet.specs.Layout.{processors_of, count_of, length_byte, row_at}
use Rattle.sheet.specs.Ranges.{row_table, before, faulty, refused_at, first_fault}
use Rattle.sheet.specs.Reading.{header_fault, record_fault, read_refusal}
use Rattle.sheet.specs.declared.Refusal.{Refusal}
use Rattle.sheet.proofs.ReadingLaws as reading

pub record Small (r : Refusal) : Type 0 where
  pub number : r.number < 100
  pub row : r.row < 100
  pub instance : r.instance < 10000000

pub whole : (k : ℕ) → k < 100 → Small (refused k 0)
whole k h = record { number = h; row = omega arith; instance = omega arith }

abbrev pub EachSmall : List Line → Type 0
EachSmall [] = Unit {0}
EachSmall (l ∷ more) = (l.number < 100) × EachSmall more

pub first_small : (t : List Line) → EachSmall t → first_of t < 100
unfolding first_of
first_small [] h = omega arith
first_small (l ∷ more) h = go l.test (first_small more h.1)
  where
    go : (b : Bool) → first_of more < 100 → pick b l.number (first_of more) < 100
    go true r = h.0
    go false r = r

header_small : (s : List ℕ) → header_fault s < 100
unfolding header_fault
header_small s = first_small _ (omega arith, (omega arith, (omega arith, (omega arith, (omega arith, (omega arith, (omega arith, tt)))))))

record_small : (s : List ℕ) (i : ℕ) → record_fault s i < 100
unfolding record_fault
record_small s i =
    first_small (not (eqb (length_byte s i) 17) gives 5 ∷ row_table (processors_of s) (before (row_at s) i) (row_at s i))
    (omega arith, (omega arith, (omega arith, (omega arith, (omega arith, (omega arith, (omega arith, (omega arith, (omega arith, (omega arith, tt))))))))))

rows_small : (fault : ℕ → ℕ) (n : ℕ) → n ≤ 32 → ((i : ℕ) → fault i < 100) → Small (first_fault fault n)
unfolding first_fault
rows_small fault n few h = go (first n (faulty fault)) (dec_lt (first n (faulty fault)) n)
  where
    go : (k : ℕ) → Dec (k < n) → Small (refused_at fault n k)
    go k (yes l) = rw (lt-ltb k n l) (record { number = h k; row = omega (arith, l, few); instance = omega arith })
    go k (no l) = rw (le-ltb k n (omega arith)) (whole 0 (omega arith))

pub read_small : (s : List ℕ) → Small (read_refusal s)
unfolding read_refusal
read_small s = go (ℕ_discrete (header_fault s) 0)
  where
    go : Dec (header_fault s ≡ 0) → Small (or_else (refused (header_fault s) 0) (first_fault (record_fault s) (count_of s)))
    go (yes e) = rw (eq-eqb (header_fault s) 0 e) (rows_small (record_fault s) (count_of s) (reading.header s e).rows (record_small s))
    go (no n) = rw (ne_eqb (header_fault s) 0 n) (whole (header_fault s) (header_small s))

pub either : (a b : Refusal) → Small a → Small b → Small (or_else a b)
either a b p q = go (eqb a.number 0)
  where
    go : (t : Bool) → Small (pick t b a)
    go true = q
    go false = p
