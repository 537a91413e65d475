-- Laws of the rows that a text's lines say, as the loop that takes them line by line needs them.
use Prim.Native.Nat.{ℕ, suc, ◌+◌, ◌≤◌, ◌<◌}
use mathlib.Core.Path.{◌≡◌, refl, sym, ap, ap₂, ◌∙◌}
use mathlib.Core.List.{List, [], ◌∷◌}
use native.Mathlib.Omega.{arith}
use native.Mathlib.Numerals.{add-one}
use native.Mathlib.Nat.{add-zero}
use lib.ListN.{length, get_or, drop, set}
use lib.Seq.{get_or-drop, drop-drop}
use borrow.Author.Tests.{eq-eqb, ne_eqb}
use Rattle.laws.specs.ChoiceLaws.{pick_true, pick_false}
use Rattle.laws.specs.Tabulate.{padded}
use Rattle.laws.specs.TabulateLaws.{padded_more}
use Rattle.sheet.specs.declared.Row.{Row}
use Rattle.sheet.specs.Ranges.{most_rows, zero_row}
use Rattle.sheet_text.specs.Faults.{Fault, no_fault, or_else}
use Rattle.sheet_text.specs.Meaning.{TextLine, RowSaid, no_line, row_said, rows_fault, row_of_line, meant, meant_nothing, rows_meant}
use Rattle.sheet_text.proofs.FaultLaws.{unless_faulty, unless_clear}
use Rattle.sheet_text.proofs.MeaningLaws.{row_few}

-- Rows 0 to count - 1 have been taken from the lines, and the others are left.
pub record Taken (lines left : List TextLine) (rows : List Row) (count : ℕ) : Type 0 where
  pub few : count ≤ most_rows
  pub rest : drop count lines ≡ left
  pub long : length lines ≡ count + length left
  pub fault : rows_fault 0 lines ≡ rows_fault count left
  pub filled : rows ≡ padded most_rows count (row_of_line lines) zero_row

pub taken_none : (lines : List TextLine) (rows : List Row) → rows ≡ padded most_rows 0 (row_of_line lines) zero_row → Taken lines lines rows 0
taken_none lines rows r = record { few = omega arith; rest = refl; long = omega arith; fault = refl; filled = r }

module _ {lines left : List TextLine} {rows : List Row} {count : ℕ} (t : Taken lines left rows count) where
  module _ {line : TextLine} {after : List TextLine} (here : left ≡ line ∷ after) {said : RowSaid} (e : said ≡ row_said count line.number line.content) where
    one : rows_fault 0 lines ≡ or_else said.fault (rows_fault (suc count) after)
    unfolding rows_fault
    one = t.fault ∙ ap (rows_fault count) here ∙ ap (λ (r : RowSaid). or_else r.fault (rows_fault (suc count) after)) (sym e)

    pub taken_stop : (N : ℕ) → (said.fault.number ≡ 0 → ⊥) → meant_nothing said.fault ≡ rows_meant N lines
    unfolding rows_meant
    taken_stop N d = unless_faulty _ meant_nothing (rows_fault 0 lines) said.fault (one ∙ pick_false _ _ _ (ne_eqb said.fault.number 0 d)) d

    pub taken_few : said.fault.number ≡ 0 → count < most_rows
    taken_few z = row_few count line.number line.content (ap (λ (r : RowSaid). r.fault.number) (sym e) ∙ z)

    row_here : said.row ≡ row_of_line lines count
    row_here =
        let l : get_or lines count no_line ≡ line =
        ap (λ (k : ℕ). get_or lines k no_line) (sym (add-zero count)) ∙ sym (get_or-drop count lines 0 no_line) ∙ ap (λ (x : List TextLine). get_or x 0 no_line) (t.rest ∙ here) in
        ap (λ (r : RowSaid). r.row) e ∙ ap (λ (x : TextLine). (row_said count x.number x.content).row) (sym l)

    pub taken_more : said.fault.number ≡ 0 → Taken lines after (set rows count said.row) (count + 1)
    taken_more z =
        record {
          few = omega (arith, taken_few z);
          rest = sym (drop-drop 1 count lines) ∙ ap (λ (x : List TextLine). drop 1 x) (t.rest ∙ here);
          long = omega (arith, t.long, ap length here);
          fault = one ∙ pick_true _ _ _ (eq-eqb said.fault.number 0 z) ∙ ap (λ (k : ℕ). rows_fault k after) (sym (add-one count));
          filled = ap₂ (λ (x : List Row) (r : Row). set x count r) t.filled row_here ∙ padded_more (row_of_line lines) zero_row most_rows count (taken_few z);
        }

  pub taken_all : left ≡ [] → (N : ℕ) → meant (record { processors = N; count = count; rows = rows }) ≡ rows_meant N lines
  unfolding rows_fault rows_meant
  taken_all none N =
      let c : count ≡ length lines = omega (arith, t.long, ap length none) in
      let z : rows_fault 0 lines ≡ no_fault = t.fault ∙ ap (rows_fault count) none in
      ap (λ (x : List Row). meant (record { processors = N; count = count; rows = x })) t.filled
      ∙ ap (λ (k : ℕ). meant (record { processors = N; count = k; rows = padded most_rows k (row_of_line lines) zero_row })) c
      ∙ unless_clear _ meant_nothing (rows_fault 0 lines) (ap (λ (x : Fault). x.number) z)
