-- Laws of reading: what each answer says, and what a sheet that reads guarantees.
use Rattle.std.specs.Prelude.{true, false, ⊤, Result, Ok, Err, is_ok}
use mathlib.Core.Path.{◌≡◌, refl, sym, ap, ◌∙◌}
use mathlib.Core.List.{List}
use Prim.Native.Nat.{ℕ, zero, suc, ◌+◌, ◌-◌, ◌<◌, ◌≤◌}
use native.Mathlib.Omega.{arith}
use native.Mathlib.Decide.{ℕ_discrete}
use lib.ListN.{length, take, drop, set, replicate, length-take, length-drop}
use borrow.Author.Tests.{ltb-false, eqb-true, not-false, eq-eqb, ne_eqb}
use Rattle.laws.specs.Choice.{first_of}
use Rattle.laws.specs.ChoiceLaws.{past}
use Rattle.laws.specs.Tabulate.{padded}
use Rattle.laws.specs.TabulateLaws.{padded_none, padded_more, padded_at, padded_rest}
use Rattle.sheet.specs.Refusals.{refused, accepted, carried, answered}
use Rattle.sheet.specs.Layout.{version_of, stated_length, processors_of, count_of, length_for, length_byte, record_start, row_start, row_at}
use Rattle.sheet.specs.Ranges.{most_rows, row_fault, before, first_fault, zero_row, zero_set, row_in, InRange, WellFormed}
use Rattle.sheet.specs.Reading.{header_fault, record_fault, read_refusal, set_of, read_sheet, row_of_part}
use Rattle.sheet.specs.declared.Row.{Row}
use Rattle.sheet.specs.declared.Set.{Set}
use Rattle.sheet.specs.declared.Refusal.{Refusal}
use Rattle.sheet.specs.declared.Reading.{Reading}
use Rattle.sheet.proofs.Faults as faults
use Rattle.sheet.proofs.RefusalFields.{read_carries}
use Rattle.sheet.proofs.AnswerLaws as answers

-- What a header without a fault says.
pub record Header (s : List ℕ) : Type 0 where
  pub long : 5 ≤ length s
  pub version : version_of s ≡ 1
  pub stated : stated_length s ≡ length s
  pub whole : length s ≡ length_for (count_of s)
  pub some : 1 ≤ processors_of s
  pub few : processors_of s ≤ 8
  pub rows : count_of s ≤ 32

pub header : (s : List ℕ) → header_fault s ≡ 0 → Header s
unfolding header_fault
header s h =
    let p1 = past _ _ _ h in
    let p2 = past _ _ _ p1.1 in
    let p3 = past _ _ _ p2.1 in
    let p4 = past _ _ _ p3.1 in
    let c = faults.counts _ _ p4.1 in
    record {
      long = ltb-false _ _ p1.0;
      version = eqb-true _ _ (not-false _ p2.0);
      stated = eqb-true _ _ (not-false _ p3.0);
      whole = sym (eqb-true _ _ (not-false _ p3.0)) ∙ eqb-true _ _ (not-false _ p4.0);
      some = c.some;
      few = c.few;
      rows = c.rows;
    }

-- A record's fault.
pub record_length : (s : List ℕ) (i : ℕ) → (length_byte s i ≡ 17 → ⊥) → 5 ≡ record_fault s i
unfolding record_fault first_of
record_length s i h = simp (ne_eqb (length_byte s i) 17 h)

pub record_row : (s : List ℕ) (i : ℕ) → length_byte s i ≡ 17 → record_fault s i ≡ row_fault (processors_of s) (before (row_at s) i) (row_at s i)
unfolding record_fault row_fault first_of
record_row s i h = simp (eq-eqb (length_byte s i) 17 h)

pub record_clear : (s : List ℕ) (i : ℕ) → record_fault s i ≡ 0 → (length_byte s i ≡ 17) × InRange (processors_of s) (before (row_at s) i) (row_at s i)
unfolding record_fault
record_clear s i h =
    let p = past _ _ _ h in
    (eqb-true _ _ (not-false _ p.0), faults.in_range _ _ _ p.1)

-- The part that is handed to the row reader is row i's.
pub row_part : (s : List ℕ) (i : ℕ) → row_start i + 17 ≤ length s
    → row_of_part (take (record_start i + 18 - (record_start i + 1)) (drop (record_start i + 1) s)) ≡ row_at s i
unfolding row_at row_of_part
row_part s i h =
    let e : record_start i + 18 - (record_start i + 1) ≡ 17 = omega arith in
    let f : record_start i + 1 ≡ row_start i = omega arith in
    let l : length (take 17 (drop (row_start i) s)) ≡ 17 = simp (length-take, length-drop) (omega arith) in
    rw (e, f, eq-eqb _ 17 l)

-- What a reading that is accepted says of the bytes.
pub record Reads (s : List ℕ) : Type 0 where
  pub head : Header s
  pub lengths : (i : ℕ) → i < count_of s → length_byte s i ≡ 17
  pub row : (i : ℕ) → i < count_of s → InRange (processors_of s) (before (row_at s) i) (row_at s i)

pub reads : (s : List ℕ) → (read_refusal s).number ≡ 0 → Reads s
unfolding read_refusal
reads s h =
    let p = faults.both_accept (refused (header_fault s) 0) (first_fault (record_fault s) (count_of s)) h in
    let clear = faults.none_faulty (record_fault s) (count_of s) p.1 in
    record {
      head = header s p.0;
      lengths = λ i l. (record_clear s i (clear i l)).0;
      row = λ i l. (record_clear s i (clear i l)).1;
    }

-- Reading, by what was found.
pub read_refused : (s : List ℕ) (r : Refusal) → r ≡ read_refusal s → (r.number ≡ 0 → ⊥) → record { refusal = Err r; set = zero_set } ≡ read_sheet s
unfolding read_sheet
read_refused s r e h = rw (← e, ne_eqb r.number 0 h)

pub read_accepted : (s : List ℕ) → (read_refusal s).number ≡ 0 → record { refusal = Ok tt; set = set_of s } ≡ read_sheet s
unfolding read_sheet
read_accepted s h = rw (eq-eqb (read_refusal s).number 0 h)

-- What a reading carries.
pub read_carried : (s : List ℕ) → carried (read_sheet s).refusal ≡ read_refusal s
unfolding read_sheet
read_carried s = answers.carried_answer (read_refusal s) (read_carries s)

-- A set of n rows of which the first i are stored.
abbrev pub stored_to : List ℕ → ℕ → ℕ → ℕ → Set
stored_to s N n i = record { processors = N; count = n; rows = padded most_rows i (row_at s) zero_row }

pub stored_none : (s : List ℕ) (N n : ℕ) → record { processors = N; count = n; rows = replicate most_rows zero_row } ≡ stored_to s N n 0
stored_none s N n = ap (λ (rows : List Row). record { processors = N; count = n; rows = rows }) (padded_none (row_at s) zero_row most_rows)

pub stored_more : (s : List ℕ) (N n i : ℕ) → i < most_rows → record { processors = N; count = n; rows = set (stored_to s N n i).rows i (row_at s i) } ≡ stored_to s N n (i + 1)
stored_more s N n i l = ap (λ (rows : List Row). record { processors = N; count = n; rows = rows }) (padded_more (row_at s) zero_row most_rows i l)

-- What a reading begins with: the numbers that a sheet states where it reads, and otherwise no row at all. Storing the rows leads to
-- the set that is handed back.
pub record Begun (s : List ℕ) (N n : ℕ) : Type 0 where
  pub few : n ≤ most_rows
  pub long : (i : ℕ) → i < n → row_start i + 17 ≤ length s
  pub leads : stored_to s N n n ≡ (read_sheet s).set

pub begun_refused : (s : List ℕ) (a : Result ⊤ Refusal) → a ≡ answered (read_refusal s) → is_ok a ≡ false → Begun s 0 0
begun_refused s a e h =
    let n = answers.refused_answer (read_refusal s) (rw (← e) h) in
    record {
      few = omega arith;
      long = λ i l. absurd (omega (arith, l));
      leads = sym (stored_none s 0 0) ∙ ap (λ (x : Reading). x.set) (read_refused s (read_refusal s) refl n);
    }

-- A sheet that was accepted.
pub accepted_reads : (s : List ℕ) (a : Result ⊤ Refusal) → a ≡ answered (read_refusal s) → is_ok a ≡ true → Reads s
accepted_reads s a e h = reads s (answers.accepted_answer (read_refusal s) (rw (← e) h))

pub begun_accepted : (s : List ℕ) (a : Result ⊤ Refusal) → a ≡ answered (read_refusal s) → is_ok a ≡ true → Begun s (processors_of s) (count_of s)
unfolding set_of
begun_accepted s a e h =
    let n = answers.accepted_answer (read_refusal s) (rw (← e) h) in
    let k = reads s n in
    record {
      few = k.head.rows;
      long = λ i l. omega (arith, l, k.head.whole);
      leads = ap (λ (x : Reading). x.set) (read_accepted s n);
    }

pub read_as : (s : List ℕ) (a : Result ⊤ Refusal) (x : Set) → a ≡ answered (read_refusal s) → x ≡ (read_sheet s).set → record { refusal = a; set = x } ≡ read_sheet s
unfolding read_sheet
read_as s a x e f = rw (e, f)

-- The rows of the set that a sheet says.
pub row_in_lem : (s : List ℕ) (i : ℕ) → count_of s ≤ 32 → i < count_of s → row_in (set_of s) i ≡ row_at s i
unfolding set_of
row_in_lem s i h l = padded_at (row_at s) zero_row 32 (count_of s) i zero_row (omega arith) l

pub row_past : (s : List ℕ) (i : ℕ) → count_of s ≤ i → row_in (set_of s) i ≡ zero_row
unfolding set_of
row_past s i l = padded_rest (row_at s) zero_row 32 (count_of s) i l

pub before_in : (s : List ℕ) (i : ℕ) → count_of s ≤ 32 → i < count_of s → before (row_in (set_of s)) i ≡ before (row_at s) i
before_in s zero h l = refl
before_in s (suc i) h l = ap (λ (r : Row). r.processor) (row_in_lem s i h (omega arith))

-- A sheet that reads says a well-formed set.
pub well_formed : (s : List ℕ) → (read_refusal s).number ≡ 0 → WellFormed (set_of s)
unfolding set_of
well_formed s h =
    let r = reads s h in
    let k = r.head.rows in
    record {
      processors_some = r.head.some;
      processors_most = r.head.few;
      rows_most = k;
      row = λ i l. rw (before_in s i k l, row_in_lem s i k l) (r.row i l);
      past = λ i l h. row_past s i l;
    }

-- A reader's loop: at a fault of the header, at a fault of record i, and at the end.
pub header_refused : (s : List ℕ) (k : ℕ) → k ≡ header_fault s → (k ≡ 0 → ⊥) → refused k 0 ≡ read_refusal s
unfolding read_refusal
header_refused s k e h = ap (λ (n : ℕ). refused n 0) e ∙ sym (faults.or_first _ _ (λ z. h (e ∙ z)))

pub record_refused : (s : List ℕ) (i k : ℕ) → header_fault s ≡ 0 → faults.Clear (record_fault s) (count_of s) i → i < count_of s
    → k ≡ record_fault s i → (k ≡ 0 → ⊥) → refused k i ≡ read_refusal s
unfolding read_refusal
record_refused s i k h c l e z = sym (faults.or_second _ _ h ∙ faults.clear_stop (record_fault s) (count_of s) i k c l e z)

pub none_refused : (s : List ℕ) (i : ℕ) → header_fault s ≡ 0 → faults.Clear (record_fault s) (count_of s) i → count_of s ≤ i → accepted ≡ read_refusal s
unfolding read_refusal
none_refused s i h c l = sym (faults.or_second _ _ h ∙ faults.clear_all (record_fault s) (count_of s) i c l)

-- Whatever the sheet, there are at most 32 rows in what was read.
pub rows_most : (s : List ℕ) → (read_sheet s).set.count ≤ most_rows
unfolding set_of
rows_most s = go (ℕ_discrete (read_refusal s).number 0)
  where
    go : Dec ((read_refusal s).number ≡ 0) → (read_sheet s).set.count ≤ most_rows
    go (yes e) = omega (arith, ap (λ (r : Reading). r.set.count) (read_accepted s e), (reads s e).head.rows)
    go (no n) = omega (arith, ap (λ (r : Reading). r.set.count) (read_refused s (read_refusal s) refl n))
