-- What the refusals of reading and writing carry.
use mathlib.Core.Path.{◌≡◌, refl}
use mathlib.Core.Bool.{Bool, true, false, not}
use mathlib.Core.List.{List, [], ◌∷◌}
use mathlib.Core.Logic.{◌⊎◌, inl, inr, ⊎_elim}
use Prim.Native.Nat.{ℕ, ◌<◌, ◌≤◌}
use native.Mathlib.Omega.{arith}
use native.Mathlib.Decide.{dec_lt}
use lib.Dec.{eqb}
use borrow.Author.Tests.{eq-eqb, lt-ltb, le-ltb}
use Rattle.laws.specs.Choice.{pick, Line, ◌gives◌, first_of}
use Rattle.laws.specs.ChoiceLaws.{true_not_false, not_yes}
use Rattle.laws.specs.Search.{first}
use Rattle.laws.specs.SearchLaws.{first_is, IsFirst}
use Rattle.sheet.specs.Refusals.{RECORD, PHASES, refused, accepted, or_else, Carries}
use Rattle.sheet.specs.Ranges.{row_table, row_fault, before, faulty, refused_at, first_fault, count_fault, row_in, set_row_fault, set_refusal}
use Rattle.sheet.specs.Layout.{processors_of, count_of, length_byte, row_at}
use Rattle.sheet.specs.Reading.{header_fault, record_fault, read_refusal}
use Rattle.sheet.specs.Writing.{write_refusal}
use Rattle.sheet.specs.declared.Row.{Row}
use Rattle.sheet.specs.declared.Refusal.{Refusal}
use Rattle.sheet.specs.declared.Set.{Set}

-- A number that a record's fault may be.
abbrev OfRecord : ℕ → Type 0
OfRecord k = (k ≡ 0) ⊎ ((RECORD ≤ k) × (k ≤ PHASES))

abbrev EachOfRecord : List Line → Type 0
EachOfRecord [] = Unit {0}
EachOfRecord (l ∷ more) = OfRecord l.number × EachOfRecord more

first_of_record : (t : List Line) → EachOfRecord t → OfRecord (first_of t)
unfolding first_of
first_of_record [] h = inl refl
first_of_record (l ∷ more) h = go l.test (first_of_record more h.1)
  where
    go : (b : Bool) → OfRecord (first_of more) → OfRecord (pick b l.number (first_of more))
    go true r = h.0
    go false r = r

within : (k : ℕ) → RECORD ≤ k → k ≤ PHASES → OfRecord k
within k a b = inr (a, b)

each_of_row : (N b : ℕ) (r : Row) → EachOfRecord (row_table N b r)
each_of_row N b r = (
  within 6 (omega arith) (omega arith),
  (
    within 6 (omega arith) (omega arith),
    (
      within 7 (omega arith) (omega arith),
      (
        within 7 (omega arith) (omega arith),
        (
          within 8 (omega arith) (omega arith),
          (
            within 8 (omega arith) (omega arith),
            (
              within 9 (omega arith) (omega arith),
              (within 9 (omega arith) (omega arith), (within 9 (omega arith) (omega arith), tt)),
            ),
          ),
        ),
      ),
    ),
  ),
)

-- A refusal without a row carries none.
pub whole : (k : ℕ) → Carries (refused k 0)
whole k = record { no_row = λ h. refl; no_instance = λ h. refl }

at_record : (k i : ℕ) → OfRecord k → (k ≡ 0 → i ≡ 0) → Carries (refused k i)
at_record k i h z =
    record {
      no_row = λ o. ⊎_elim (λ e. z e) (λ w. ⊎_elim (λ l. absurd (omega arith)) (λ l. absurd (omega arith)) o) h;
      no_instance = λ e. refl;
    }

-- The first of two that applies.
pub or_carries : (a b : Refusal) → Carries a → Carries b → Carries (or_else a b)
or_carries a b p q = go (eqb a.number 0)
  where
    go : (t : Bool) → Carries (pick t b a)
    go true = q
    go false = p

of_rows : (fault : ℕ → ℕ) (n : ℕ) → ((i : ℕ) → OfRecord (fault i)) → Carries (first_fault fault n)
unfolding first_fault
of_rows fault n h = go (first n (faulty fault)) (first_is n (faulty fault)) (dec_lt (first n (faulty fault)) n)
  where
    go : (k : ℕ) → IsFirst (faulty fault) 0 n k → Dec (k < n) → Carries (refused_at fault n k)
    go k f (yes l) =
        rw (lt-ltb k n l) (at_record (fault k) k (h k) (λ e. true_not_false _ (f.passes (omega arith)) (not_yes _ (eq-eqb (fault k) 0 e))))
    go k f (no l) = rw (le-ltb k n (omega arith)) (whole 0)

row_of_record : (N b : ℕ) (r : Row) → OfRecord (row_fault N b r)
unfolding row_fault
row_of_record N b r = first_of_record (row_table N b r) (each_of_row N b r)

record_of_record : (s : List ℕ) (i : ℕ) → OfRecord (record_fault s i)
unfolding record_fault
record_of_record s i =
    let N = processors_of s in
    let b = before (row_at s) i in
    let r = row_at s i in
    first_of_record (not (eqb (length_byte s i) 17) gives RECORD ∷ row_table N b r) (within 5 (omega arith) (omega arith), each_of_row N b r)

pub read_carries : (s : List ℕ) → Carries (read_refusal s)
unfolding read_refusal
read_carries s = or_carries _ _ (whole (header_fault s)) (of_rows (record_fault s) (count_of s) (record_of_record s))

pub write_carries : (set : Set) (room : ℕ) → Carries (write_refusal set room)
unfolding write_refusal set_refusal set_row_fault
write_carries set room =
    or_carries _ _
    (or_carries _ _ (whole (count_fault set.processors set.count))
    (of_rows (set_row_fault set) set.count (λ i. row_of_record set.processors (before (row_in set) i) (row_in set i))))
    (whole _)

-- An accepted call carries 0 in all three.
pub accepted_carries : (r : Refusal) → Carries r → r.number ≡ 0 → r ≡ accepted
accepted_carries r c n =
    let row : r.row ≡ 0 = c.no_row (inl (omega arith)) in
    let instance : r.instance ≡ 0 = c.no_instance (λ z. omega arith) in
    λ j. record { number = n j; row = row j; instance = instance j }
