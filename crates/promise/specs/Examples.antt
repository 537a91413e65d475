-- The paper's ten examples, as one table: what the analysis of a set comes to, and the rows' worst responses after some calls.
use Rattle.std.specs.Prelude.{ℕ, zero, suc, ◌≡◌, List, [], ◌∷◌}
use Rattle.laws.specs.Tabulate.{tab}
use Rattle.sheet.specs.declared.Set.{Set}
use Rattle.analysis.specs.Examples as analysis
use Rattle.analysis.specs.Examples.{analysed_a, analysed_b, analysed_c, analysed_c6, analysed_j, analysed_e1, analysed_e2, analysed_e3, analysed_empty}
use Rattle.board.specs.States.{job_at, start_set}
use Rattle.runs.specs.Runs.{Call, release, tick, calls}

pub record Example : Type 0 where
  pub analysis : analysis.Example
  pub run : List Call
  pub worst : List ℕ

abbrev pub ticks : ℕ → List Call → List Call
ticks zero more = more
ticks (suc k) more = tick ∷ ticks k more

-- A, both released at 0.
abbrev pub run_a : List Call
run_a = release 0 ∷ release 1 ∷ ticks 6 []

-- J: row 1 released at 0, row 0 at 1, row 2 at 3, row 0 at 7.
abbrev pub run_j : List Call
run_j = release 1 ∷ ticks 1 (release 0 ∷ ticks 2 (release 2 ∷ ticks 4 (release 0 ∷ ticks 3 [])))

-- An example of the analysis, with calls and the worst responses after them.
abbrev pub played : analysis.Example → List Call → List ℕ → Example
played e run worst = record { analysis = e; run = run; worst = worst }

abbrev pub table : List Example
table =
    played analysed_a run_a (2 ∷ 6 ∷ [])
    ∷ played analysed_b [] (0 ∷ 0 ∷ 0 ∷ [])
    ∷ played analysed_c [] (0 ∷ 0 ∷ 0 ∷ [])
    ∷ played analysed_c6 [] (0 ∷ 0 ∷ 0 ∷ [])
    ∷ played analysed_j [] (0 ∷ 0 ∷ 0 ∷ [])
    ∷ played analysed_j run_j (4 ∷ 3 ∷ 7 ∷ [])
    ∷ played analysed_e1 [] (0 ∷ [])
    ∷ played analysed_e2 [] (0 ∷ [])
    ∷ played analysed_e3 [] (0 ∷ [])
    ∷ played analysed_empty [] []
    ∷ []

abbrev pub worst_after : Set → List Call → List ℕ
worst_after set run = tab set.count (λ i. (job_at (calls (start_set set) run) i).worst)

abbrev pub Holds : List Example → Type 0
Holds [] = Unit {0}
Holds (e ∷ more) = analysis.Hold e.analysis × (worst_after e.analysis.given e.run ≡ e.worst) × Holds more
