-- The text of a sheet, case by case.
use Rattle.std.specs.Prelude.{⊤, Result, Ok, Err}
use Prim.Native.Nat.{ℕ}
use mathlib.Core.Bool.{Bool, true, false}
use mathlib.Core.Path.{◌≡◌, refl, ap, ap₂, sym, ◌∙◌}
use mathlib.Core.List.{List}
use lib.ListN.{length}
use Rattle.laws.specs.Choice.{pick}
use Rattle.sheet.specs.declared.Refusal.{Refusal}
use Rattle.sheet.specs.declared.Reading.{Reading}
use Rattle.sheet.specs.Refusals.{accepts, answered}
use Rattle.sheet.specs.Ranges.{most_rows}
use Rattle.sheet.specs.Reading.{read_sheet}
use Rattle.analysis.specs.Analysis.{analyse_refusal, analysed}
use Rattle.text.specs.Refusing.{refused_line}
use Rattle.report.specs.Report.{accepted_text, places, report_of}

-- What is printed for the answer of the analysis.
abbrev text_for : List ℕ → Result ⊤ Refusal → List ℕ
text_for accepted (Ok nothing) = accepted
text_for accepted (Err refusal) = refused_line refusal

picked : (t : Bool) (r : Refusal) (accepted : List ℕ) → text_for accepted (pick t (Ok (tt {0})) (Err r)) ≡ pick t accepted (refused_line r)
picked true r accepted = refl
picked false r accepted = refl

-- The analysis of a sheet, in words of what the code holds.
module _ (s : List ℕ) (answer : Result ⊤ Refusal) (told : answer ≡ answered (analyse_refusal s (length places))) where
  answer_is : text_for (accepted_text (read_sheet s).set (analysed s places)) answer ≡ report_of s
  unfolding report_of
  answer_is = ap (text_for _) told ∙ picked (accepts (analyse_refusal s most_rows)) (analyse_refusal s most_rows) _

  pub report_refused : (refusal : Refusal) → answer ≡ Err refusal → refused_line refusal ≡ report_of s
  report_refused refusal is = ap (text_for _) (sym is) ∙ answer_is

  pub report_accepted : (nothing : ⊤) → answer ≡ Ok nothing → (reading : Reading) → reading ≡ read_sheet s → (bounds : List ℕ) → bounds ≡ analysed s places
      → accepted_text reading.set bounds ≡ report_of s
  report_accepted nothing is reading r bounds b =
      ap₂ accepted_text (ap (λ (r : Reading). r.set) r) b ∙ ap (text_for _) (sym is) ∙ answer_is
