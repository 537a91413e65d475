-- Composing what was listed, and listing what was composed.
use Prim.Native.Nat.{ℕ, zero, suc, ◌<◌, ◌≤◌}
use mathlib.Core.Path.{◌≡◌, refl, sym, ap, ap₂, ◌∙◌}
use mathlib.Core.Bool.{Bool, true, false}
use mathlib.Core.List.{List, [], ◌∷◌, ◌++◌}
use native.Mathlib.Omega.{arith}
use lib.ListN.{length, get_or, take, drop}
use lib.Dec.{eqb, ltb}
use borrow.Author.Tests.{eqb-true, eqb-false, eq-eqb}
use Rattle.laws.specs.Choice.{pick}
use Rattle.laws.specs.Tabulate.{padded}
use Rattle.laws.specs.TabulateLaws.{padded_at, padded_same}
use Rattle.sheet.specs.declared.Row.{Row}
use Rattle.sheet.specs.declared.Set.{Set}
use Rattle.sheet.specs.declared.Refusal.{Refusal}
use Rattle.sheet.specs.declared.Reading.{Reading}
use Rattle.std.specs.Prelude.{Ok}
use Rattle.sheet.specs.Refusals.{accepted, accepts, carried}
use Rattle.sheet.specs.Layout.{processors_of, count_of, row_at}
use Rattle.sheet.specs.Ranges.{most_processors, most_rows, zero_row, row_in, row_fault, set_row_fault, set_refusal, InRange}
use Rattle.sheet.specs.Reading.{read_refusal, set_of, read_sheet}
use Rattle.sheet.specs.Writing.{write_refusal, trimmed}
use Rattle.sheet.proofs.Faults as faults
use Rattle.sheet.proofs.ReadingLaws as reading
use Rattle.sheet.proofs.WritingLaws as writing
use Rattle.sheet.proofs.RoundTrip.{read_taken, read_write, written_read}
use Rattle.text.specs.Lines.{lines_to}
use Rattle.text.specs.Refusing.{refused_line}
use Rattle.sheet_text.specs.Faults.{LONG, Fault, fault_at}
use Rattle.sheet_text.specs.Words.{lines_of}
use Rattle.sheet_text.specs.Meaning as said
use Rattle.sheet_text.specs.Meaning.{TextLine, Meaning, worded, first_line_said, rows_fault, meant, meant_nothing, rows_meant, page_meant, most_bytes, meaning_of}
use Rattle.sheet_text.specs.Composing.{refused_text, answer_of, compose_answer, composed}
use Rattle.sheet_text.specs.Listing.{first_text, heading, row_text, row_text_of, listing, listed, plain}
use Rattle.sheet_text.proofs.ListingLaws.{RowWithin, Sayable, listing_said}

-- What the writer takes, a text can say.
in_range_sayable : (N b : ℕ) (r : Row) → N ≤ most_processors → InRange N b r → RowWithin r
in_range_sayable N b r few g = omega arith

pub taken_sayable : (set : Set) → (set_refusal set).number ≡ 0 → Sayable set
unfolding set_row_fault row_fault
taken_sayable set h =
    let c = writing.set_counts set h in
    record {
      processors = omega (arith, c.few);
      count = c.rows;
      row = λ i l. in_range_sayable _ _ _ c.few (faults.in_range _ _ _ (writing.set_rows set h i l));
    }

-- A set whose rows past its count are zero already.
abbrev padded_set : ℕ → ℕ → (ℕ → Row) → Set
padded_set N n row = record { processors = N; count = n; rows = padded most_rows n row zero_row }

trimmed_padded : (N n : ℕ) (row : ℕ → Row) → n ≤ most_rows → trimmed (padded_set N n row) ≡ padded_set N n row
trimmed_padded N n row c =
    ap (λ (l : List Row). record { processors = N; count = n; rows = l })
    (padded_same _ row zero_row most_rows n (λ i l. padded_at row zero_row most_rows n i zero_row (omega arith) l))

-- A sheet of bytes that reads.
module _ (s : List ℕ) (bytes : (i : ℕ) → get_or s i 0 < 256) (h : (read_refusal s).number ≡ 0) where
  listed_set : listed s ≡ listing (set_of s)
  unfolding listed read_sheet
  listed_set = rw (eq-eqb (read_refusal s).number 0 h)

  taken : (set_refusal (set_of s)).number ≡ 0
  taken = ap (λ (r : Refusal). r.number) (read_taken s bytes h)

  trimmed_same : trimmed (set_of s) ≡ set_of s
  unfolding set_of
  trimmed_same = trimmed_padded (processors_of s) (count_of s) (row_at s) (reading.reads s h).head.rows

  listed_said : meaning_of (listed s) ≡ meant (set_of s)
  listed_said = ap meaning_of listed_set ∙ listing_said (set_of s) (taken_sayable (set_of s) taken) ∙ ap meant trimmed_same

  -- Composing what was listed gives the sheet again.
  pub list_compose : (buffer : List ℕ) → length s ≤ length buffer
      → (compose_answer (listed s) (length buffer) ≡ record { number = 0; row = 0; line = 0; column = 0; length = length s })
      × (composed (listed s) buffer ≡ s ++ drop (length s) buffer)
  unfolding compose_answer composed set_of
  list_compose buffer l =
      let whole = (reading.reads s h).head.whole in
      let w : accepted ≡ write_refusal (set_of s) (length buffer) = (writing.write_done (set_of s) buffer taken (omega arith)).answer in
      (rw (listed_said, ← w, ← whole), rw listed_said (read_write s bytes h buffer l))

-- A listing shows nothing past the count.
lines_same : (f g : ℕ → List ℕ) (n : ℕ) → ((i : ℕ) → i < n → f i ≡ g i) → lines_to f n ≡ lines_to g n
unfolding lines_to
lines_same f g zero h = refl
lines_same f g (suc n) h = ap₂ (λ (x y : List ℕ). x ++ y) (lines_same f g n (λ i l. h i (omega arith))) (h n (omega arith))

listing_trimmed : (set : Set) → set.count ≤ most_rows → listing (trimmed set) ≡ listing set
unfolding listing
listing_trimmed set c =
    ap (λ (x : List ℕ). first_text set.processors ++ (heading ++ x))
    (lines_same (row_text_of (row_in (trimmed set))) (row_text_of (row_in set)) set.count
    (λ i l. ap row_text (padded_at (row_in set) zero_row most_rows set.count i zero_row (omega arith) l)))

listed_reading : (s : List ℕ) (set : Set) → read_sheet s ≡ record { refusal = Ok (tt {0}); set = set } → listed s ≡ listing set
unfolding listed
listed_reading s set e =
    ap (λ (r : Refusal). pick (accepts r) (listing (read_sheet s).set) (refused_line r)) (sym (reading.read_carried s))
    ∙ ap (λ (r : Reading). pick (accepts (carried r.refusal)) (listing r.set) (refused_line (carried r.refusal))) e

-- A meaning without a fault is a set, and its rows past the count are zero.
abbrev Proper : Meaning → Type 0
Proper m = m.fault.number ≡ 0 → m.set.count ≤ most_rows → m ≡ meant (trimmed m.set)

proper_else : (f : Fault) (m : Meaning) → Proper m → Proper (pick (eqb f.number 0) m (meant_nothing f))
proper_else f m p = go (eqb f.number 0) refl
  where
    go : (b : Bool) → eqb f.number 0 ≡ b → Proper (pick b m (meant_nothing f))
    go true e = p
    go false e = λ z c. absurd (eqb-false f.number 0 e z)

rows_proper : (N : ℕ) (lines : List TextLine) → Proper (rows_meant N lines)
unfolding rows_meant
rows_proper N lines = proper_else (rows_fault 0 lines) _ (λ z c. ap meant (sym (trimmed_padded N (length lines) (said.row_of_line lines) c)))

page_proper : (last : ℕ) (lines : List TextLine) → Proper (page_meant last lines)
unfolding page_meant
page_proper last [] = λ z c. absurd (omega arith)
page_proper last (l ∷ lines) = proper_else (first_line_said l.number l.content).fault _ (rows_proper _ lines)

meaning_proper : (text : List ℕ) → Proper (meaning_of text)
unfolding meaning_of
meaning_proper text = go (ltb most_bytes (length text))
  where
    go : (b : Bool) → Proper (pick b (meant_nothing (fault_at LONG 1 1)) (page_meant (length (lines_of text)) (worded 1 (lines_of text))))
    go true = λ z c. absurd (omega arith)
    go false = page_proper _ _

-- A text that composes: it has no fault, and the writer takes its set.
module _ (text buffer : List ℕ) (h : (compose_answer text (length buffer)).number ≡ 0) where
  composes : ((meaning_of text).fault.number ≡ 0) × ((write_refusal (meaning_of text).set (length buffer)).number ≡ 0)
  unfolding compose_answer
  composes = go (meaning_of text) (eqb (meaning_of text).fault.number 0) refl h
    where
      go : (m : Meaning) (b : Bool) → eqb m.fault.number 0 ≡ b
          → (pick b (answer_of (write_refusal m.set (length buffer)) m.set.count) (refused_text m.fault)).number ≡ 0
          → (m.fault.number ≡ 0) × ((write_refusal m.set (length buffer)).number ≡ 0)
      go m true e z = (eqb-true _ _ e, z)
      go m false e z = absurd (eqb-false _ _ e z)

  sayable : Sayable (meaning_of text).set
  unfolding write_refusal
  sayable = taken_sayable (meaning_of text).set (faults.both_accept (set_refusal (meaning_of text).set) _ composes.1).0

  -- Listing what was composed gives the text in its plain layout.
  pub compose_list : listed (take (compose_answer text (length buffer)).length (composed text buffer)) ≡ plain text
  unfolding compose_answer composed plain
  compose_list =
      rw (eq-eqb (meaning_of text).fault.number 0 composes.0, eq-eqb (write_refusal (meaning_of text).set (length buffer)).number 0 composes.1)
      (listed_reading _ _ (written_read (meaning_of text).set buffer composes.1) ∙ listing_trimmed (meaning_of text).set sayable.count)

  -- The plain layout says what the text says, and is its own plain layout.
  pub plain_said : meaning_of (plain text) ≡ meaning_of text
  unfolding plain
  plain_said = listing_said (meaning_of text).set sayable ∙ sym (meaning_proper text composes.0 sayable.count)

  pub plain_again : plain (plain text) ≡ plain text
  unfolding plain
  plain_again = ap (λ (m : Meaning). listing m.set) plain_said
