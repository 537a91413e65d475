-- Everything fits the programs' buffers: nothing is left out of what is written.
use Prim.Native.Nat.{ℕ, ◌≤◌}
use mathlib.Core.Path.{◌≡◌, ap}
use mathlib.Core.Bool.{Bool, true, false}
use mathlib.Core.List.{List}
use native.Mathlib.Omega.{arith}
use native.Mathlib.Decide.{ℕ_discrete}
use lib.ListN.{length, length-append}
use lib.Dec.{eqb, leb}
use borrow.Author.Tests.{eq-eqb, ne_eqb, ltb-false}
use Rattle.laws.specs.Choice.{pick}
use Rattle.laws.specs.ChoiceLaws.{past}
use Rattle.sheet.specs.Refusals.{refused, accepts}
use Rattle.sheet.specs.Layout.{length_for}
use Rattle.sheet.specs.Ranges.{set_refusal}
use Rattle.sheet.specs.Reading.{read_refusal, read_sheet, set_of}
use Rattle.sheet.specs.Writing.{write_refusal}
use Rattle.sheet.specs.declared.Set.{Set}
use Rattle.sheet.specs.declared.Refusal.{Refusal}
use Rattle.sheet.proofs.Faults.{both_accept}
use Rattle.sheet.proofs.SmallRefusals.{read_small}
use Rattle.sheet.proofs.ReadingLaws.{well_formed}
use Rattle.sheet.proofs.RoundTrip.{well_formed_taken}
use Rattle.text.specs.Refusing.{refused_line}
use Rattle.text.specs.Decimal.{decimal}
use Rattle.text.proofs.Lengths.{refused_line_lem}
use Rattle.text.proofs.DecimalLaws.{decimal_short}
use Rattle.sheet_text.specs.Meaning.{meaning_of}
use Rattle.sheet_text.specs.Composing.{reason, placed_line, answer_line, refused_text, answer_of, compose_answer}
use Rattle.sheet_text.specs.Listing.{listing, listed}
use Rattle.sheet_text.specs.declared.Answer.{Answer}
use Rattle.sheet_text.proofs.ListingLaws.{listing_short}
use Rattle.sheet_text.proofs.RoundTrip.{taken_sayable}

-- One of two lists that both fit.
either_short : (b : Bool) (x y : List ℕ) (most : ℕ) → length x ≤ most → length y ≤ most → length (pick b x y) ≤ most
either_short true x y most p q = p
either_short false x y most p q = q

-- A listing, or the refusal of a sheet that does not read.
pub list_fits : (s : List ℕ) → length (listed s) ≤ 2048
unfolding listed read_sheet
list_fits s = go (ℕ_discrete (read_refusal s).number 0)
  where
    go : Dec ((read_refusal s).number ≡ 0) → length (pick (accepts (read_refusal s)) (listing (read_sheet s).set) (refused_line (read_refusal s))) ≤ 2048
    go (yes h) =
        let z = ap (λ (r : Refusal). r.number) (well_formed_taken (set_of s) (well_formed s h)) in
        rw (eq-eqb (read_refusal s).number 0 h) (listing_short (set_of s) (taken_sayable (set_of s) z))
    go (no h) = rw (ne_eqb (read_refusal s).number 0 h) (omega (arith, refused_line_lem (read_refusal s) (read_small s)))

-- The line that is printed for a refused text, whatever numbers of 64 bits it has.
abbrev most64 : ℕ
most64 = 18446744073709551615

twenty_digits : (n : ℕ) → n ≤ most64 → length (decimal n) ≤ 20
twenty_digits n h = decimal_short 19 n (omega arith)

reason_short : (number : ℕ) → length (reason number) ≤ 21
unfolding reason
reason_short number =
    either_short (eqb number 31) _ _ 21 (omega arith)
    (either_short (eqb number 32) _ _ 21 (omega arith)
    (either_short (eqb number 33) _ _ 21 (omega arith)
    (either_short (eqb number 34) _ _ 21 (omega arith)
    (either_short (eqb number 35) _ _ 21 (omega arith)
    (either_short (eqb number 36) _ _ 21 (omega arith) (either_short (eqb number 37) _ _ 21 (omega arith) (omega arith)))))))

placed_short : (a : Answer) → a.line ≤ most64 → a.column ≤ most64 → length (placed_line a) ≤ 128
placed_short a l c =
    simp length-append (omega (arith, twenty_digits a.line l, twenty_digits a.column c, reason_short a.number))

refused_short : (number row : ℕ) → number ≤ most64 → row ≤ most64 → length (refused_line (refused number row)) ≤ 128
unfolding refused_line
refused_short number row n r = simp length-append (omega (arith, twenty_digits number n, twenty_digits row r, twenty_digits 0 (omega arith)))

pub answer_fits : (a : Answer) → a.number ≤ most64 → a.row ≤ most64 → a.line ≤ most64 → a.column ≤ most64 → length (answer_line a) ≤ 128
unfolding answer_line
answer_fits a n r l c = either_short (leb 31 a.number) (placed_line a) _ 128 (placed_short a l c) (refused_short a.number a.row n r)

-- The sheet that is composed fits the lent buffer.
written_length : (set : Set) (room : ℕ) → (answer_of (write_refusal set room) set.count).length ≤ room
unfolding write_refusal
written_length set room = go (ℕ_discrete (write_refusal set room).number 0)
  where
    go : Dec ((write_refusal set room).number ≡ 0) → pick (accepts (write_refusal set room)) (length_for set.count) 0 ≤ room
    go (yes z) =
        rw (eq-eqb (write_refusal set room).number 0 z)
        (ltb-false room (length_for set.count) (past _ _ _ (both_accept (set_refusal set) _ z).1).0)
    go (no d) = rw (ne_eqb (write_refusal set room).number 0 d) (omega arith)

pub compose_length : (text : List ℕ) (room : ℕ) → (compose_answer text room).length ≤ room
unfolding compose_answer
compose_length text room = go (eqb (meaning_of text).fault.number 0)
  where
    go : (b : Bool) → (pick {A = Answer} b (answer_of (write_refusal (meaning_of text).set room) (meaning_of text).set.count) (refused_text (meaning_of text).fault)).length ≤ room
    go true = written_length (meaning_of text).set room
    go false = omega arith
