-- The paper's worked examples of the analysis, as one table.
use Rattle.std.specs.Prelude.{ℕ, ◌≡◌, List, [], ◌∷◌, length}
use Rattle.sheet.specs.declared.Set.{Set}
use Rattle.sheet.specs.declared.Refusal.{Refusal}
use Rattle.sheet.specs.Refusals.{ROOM, refused, accepted}
use Rattle.sheet.specs.Writing.{sheet_of}
use Rattle.sheet.specs.Examples.{example_a, example_b, example_c, example_c6, example_j, example_e1, example_e2, example_e3, example_empty, sheet_a, sheet_empty}
use Rattle.analysis.specs.Analysis.{refusal_of, analyse_refusal, analysed}
use Rattle.analysis.specs.Bounds.{Outcome, Accepted, BusyAt, LateAt, analyse_set}

pub record Example : Type 0 where
  pub given : Set
  pub gives : Outcome

infix 30 ◌analysed_to◌
abbrev pub ◌analysed_to◌ : Set → Outcome → Example
set analysed_to outcome = record { given = set; gives = outcome }

abbrev pub analysed_a : Example
analysed_a = example_a analysed_to Accepted (2 ∷ 6 ∷ [])

abbrev pub analysed_b : Example
analysed_b = example_b analysed_to Accepted (4 ∷ 8 ∷ 8 ∷ [])

abbrev pub analysed_c : Example
analysed_c = example_c analysed_to Accepted (4 ∷ 6 ∷ 7 ∷ [])

abbrev pub analysed_c6 : Example
analysed_c6 = example_c6 analysed_to LateAt 2 1

abbrev pub analysed_j : Example
analysed_j = example_j analysed_to Accepted (5 ∷ 5 ∷ 7 ∷ [])

abbrev pub analysed_e1 : Example
analysed_e1 = example_e1 analysed_to BusyAt 0

abbrev pub analysed_e2 : Example
analysed_e2 = example_e2 analysed_to Accepted (4 ∷ [])

abbrev pub analysed_e3 : Example
analysed_e3 = example_e3 analysed_to LateAt 0 0

abbrev pub analysed_empty : Example
analysed_empty = example_empty analysed_to Accepted []

abbrev pub table : List Example
table =
    analysed_a ∷ analysed_b ∷ analysed_c ∷ analysed_c6 ∷ analysed_j ∷ analysed_e1 ∷ analysed_e2 ∷ analysed_e3 ∷ analysed_empty ∷ []

abbrev pub Hold : Example → Type 0
Hold e = analyse_set e.given ≡ e.gives

abbrev pub Holds : List Example → Type 0
Holds [] = Unit {0}
Holds (e ∷ more) = Hold e × Holds more

-- The same from bytes: a sheet and a lent buffer, and what they come to.
pub record SheetExample : Type 0 where
  pub sheet : List ℕ
  pub buffer : List ℕ
  pub answer : Refusal
  pub after : List ℕ

-- Later places are unchanged; a refusal writes nothing; 12 comes before the rows.
abbrev pub sheets : List SheetExample
sheets =
    record { sheet = sheet_a; buffer = 7 ∷ 7 ∷ 7 ∷ []; answer = accepted; after = 2 ∷ 6 ∷ 7 ∷ [] }
    ∷ record { sheet = sheet_a; buffer = 7 ∷ []; answer = refused ROOM 0; after = 7 ∷ [] }
    ∷ record { sheet = sheet_of example_c6; buffer = 7 ∷ 7 ∷ 7 ∷ []; answer = refusal_of (LateAt 2 1); after = 7 ∷ 7 ∷ 7 ∷ [] }
    ∷ record { sheet = sheet_of example_c6; buffer = 7 ∷ 7 ∷ []; answer = refused ROOM 0; after = 7 ∷ 7 ∷ [] }
    ∷ record { sheet = sheet_empty; buffer = []; answer = accepted; after = [] }
    ∷ []

abbrev pub HoldOfSheets : List SheetExample → Type 0
HoldOfSheets [] = Unit {0}
HoldOfSheets (e ∷ more) =
    (analyse_refusal e.sheet (length e.buffer) ≡ e.answer) × (analysed e.sheet e.buffer ≡ e.after) × HoldOfSheets more
