-- Every text fits the program's buffer: nothing is left out of what is printed.
use Prim.Native.Nat.{ℕ, ◌≤◌, ◌<◌}
use mathlib.Core.Path.{◌≡◌, sym, subst}
use mathlib.Core.List.{List, ◌++◌}
use native.Mathlib.Nat.{mul-le-mul_left}
use native.Mathlib.Omega.{arith}
use native.Mathlib.Decide.{ℕ_discrete}
use lib.ListN.{length, get_or, length-append}
use borrow.Author.Tests.{eq-eqb, ne_eqb}
use Rattle.laws.specs.Choice.{pick}
use Rattle.laws.specs.RoundingLaws.{up_below}
use Rattle.sheet.specs.Refusals.{accepts, carried, or_else}
use Rattle.sheet.specs.Ranges.{most_rows, zero_set, row_in, WellFormed}
use Rattle.sheet.specs.Reading.{read_refusal, set_of, read_sheet}
use Rattle.sheet.specs.declared.Row.{Row}
use Rattle.sheet.specs.declared.Set.{Set}
use Rattle.sheet.specs.declared.Refusal.{Refusal}
use Rattle.sheet.proofs.ReadingLaws as reading
use Rattle.sheet.proofs.SmallRefusals.{Small, whole, first_small, read_small, either}
use Rattle.analysis.specs.Bounds.{equations_of, Outcome, Accepted, BusyAt, LateAt, worked, analyse_set}
use Rattle.analysis.specs.Analysis.{refusal_of, room_refusal, reading_refusal, analyse_refusal, analysed}
use Rattle.analysis.specs.Direct.{Says}
use Rattle.analysis.proofs.Exact.{given_said}
use Rattle.analysis.proofs.AcceptedBounds.{row_bounded}
use Rattle.analysis.proofs.AcceptedSheet.{AcceptedSheet, accepted_sheet, bound_written}
use Rattle.text.specs.Ascii.{ascii}
use Rattle.text.specs.Decimal.{decimal}
use Rattle.text.specs.Lines.{lines_to}
use Rattle.text.specs.Refusing.{refused_line}
use Rattle.text.proofs.Lengths.{two_digits, seven_digits, refused_line_lem, lines_short}
use Rattle.report.specs.Report.{accepted_line, header, row_line, line_of, accepted_text, places, report_of}

-- A row's line.
row_line_lem : (i : ℕ) (r : Row) (bound : ℕ) → i < 100 → r.processor < 100 → bound < 10000000 → r.deadline < 10000000 → length (row_line i r bound) ≤ 22
unfolding row_line
row_line_lem i r bound a b c d =
    simp length-append (omega (arith, two_digits i a, two_digits r.processor b, seven_digits bound c, seven_digits r.deadline d))

set_small : (set : Set) → WellFormed set → Small (refusal_of (analyse_set set))
unfolding equations_of
set_small set w = go (analyse_set set) (given_said set w)
  where
    go : (o : Outcome) → Says set o → Small (refusal_of o)
    go (Accepted bounds) h = whole 0 (omega arith)
    go (BusyAt i) h = record { number = omega arith; row = omega (arith, h.1, w.rows_most); instance = omega arith }
    go (LateAt i q) h =
        let t = (w.row i h.1).period_some in
        let l = h.3 in
        record {
          number = omega arith;
          row = omega (arith, h.1, w.rows_most);
          instance = omega (arith, up_below l.L (row_in set i).period q t l.below, l.length.within, mul-le-mul_left q t);
        }

room_small : (n : ℕ) → Small (room_refusal n most_rows)
room_small n = whole _ (first_small _ (omega arith, tt))

none_small : Small (refusal_of (analyse_set zero_set))
unfolding analyse_set worked
none_small = whole 0 (omega arith)

analyse_small : (s : List ℕ) → Small (analyse_refusal s most_rows)
unfolding analyse_refusal reading_refusal read_sheet
analyse_small s =
    let n : ℕ = (read_sheet s).set.count in
    let o : Refusal = refusal_of (analyse_set (read_sheet s).set) in
    let read : Small (carried (read_sheet s).refusal) = subst Small (sym (reading.read_carried s)) (read_small s) in
    either (carried (read_sheet s).refusal) (or_else (room_refusal n most_rows) o) read
    (either (room_refusal n most_rows) o (room_small n) (go (ℕ_discrete (read_refusal s).number 0)))
  where
    go : Dec ((read_refusal s).number ≡ 0) → Small (refusal_of (analyse_set (pick (accepts (read_refusal s)) (set_of s) zero_set)))
    go (yes e) = rw (eq-eqb (read_refusal s).number 0 e) (set_small (set_of s) (reading.well_formed s e))
    go (no n) = rw (ne_eqb (read_refusal s).number 0 n) none_small

accepted_line_lem : (n : ℕ) → n < 100 → length (accepted_line n) ≤ 12
unfolding accepted_line
accepted_line_lem n h = omega (arith, length-append (decimal n) (ascii "\n"), two_digits n h)

-- The text of an accepted sheet.
accepted_fits : (s : List ℕ) → (a : AcceptedSheet s places) → length (accepted_text (read_sheet s).set (analysed s places)) ≤ 1024
unfolding accepted_text
accepted_fits s a =
    let w = reading.well_formed s a.reads in
    let n : ℕ = (set_of s).count in
    let rows = lines_short (line_of (row_in (set_of s)) (analysed s places)) 22 n (λ i l.
    let r = w.row i l in
    let b = row_bounded (set_of s) w a.bounds a.outcome i l in
    row_line_lem i (row_in (set_of s) i) (get_or (analysed s places) i 0) (omega (arith, l, w.rows_most)) (omega (arith, r.below, w.processors_most))
    (omega (arith, bound_written s places a i l, b.deadline_most, r.deadline_most, r.period_most)) (omega (arith, r.deadline_most, r.period_most))) in
    let lines : List ℕ = lines_to (line_of (row_in (set_of s)) (analysed s places)) n in
    rw a.reading
    (omega (arith, length-append (accepted_line n) (header ++ lines), length-append header lines, accepted_line_lem n (omega (arith, w.rows_most)), rows, w.rows_most))

-- Every text fits 1,024 bytes.
pub report_fits : (s : List ℕ) → length (report_of s) ≤ 1024
unfolding report_of
report_fits s = go (ℕ_discrete (analyse_refusal s most_rows).number 0)
  where
    go : Dec ((analyse_refusal s most_rows).number ≡ 0) → length (pick (accepts (analyse_refusal s most_rows)) (accepted_text (read_sheet s).set (analysed s places)) (refused_line (analyse_refusal s most_rows))) ≤ 1024
    go (yes e) = rw (eq-eqb (analyse_refusal s most_rows).number 0 e) (accepted_fits s (accepted_sheet s places e))
    go (no n) =
        let x = analyse_small s in
        rw (ne_eqb (analyse_refusal s most_rows).number 0 n) (omega (arith, refused_line_lem (analyse_refusal s most_rows) x))
