-- A set of rows as numbers alone, with a bound for each; and how one row stands to another.
use Rattle.std.specs.Prelude.{ℕ, ◌+◌, ◌<◌, ◌≡◌, Bool, ◌&&◌, ltb, eqb}
use Rattle.laws.specs.SumsWhere.{sum_where}

-- Row numbers run below `rows`. Everything is counted in ticks.
pub record System : Type 0 where
  pub rows : ℕ
  pub processor : ℕ → ℕ
  pub memory : ℕ → ℕ
  pub computation : ℕ → ℕ
  pub period : ℕ → ℕ
  pub bound : ℕ → ℕ

-- The paper's e: all that a job of the row has to do
abbrev pub work : System → ℕ → ℕ
work sys j = sys.memory j + sys.computation j

-- Row j as row i sees it. Processor 0 has the highest rank; among rows of one processor the earlier is higher.
-- Row j is on a processor of higher rank,
abbrev pub Above : System → (i j : ℕ) → Type 0
Above sys i j = sys.processor j < sys.processor i

-- or a higher row of the same processor,
abbrev pub Higher : System → (i j : ℕ) → Type 0
Higher sys i j = (sys.processor j ≡ sys.processor i) × (j < i)

-- or a lower one.
abbrev pub Lower : System → (i j : ℕ) → Type 0
Lower sys i j = (sys.processor j ≡ sys.processor i) × (i < j)

-- The same three as tests, and sums over the rows that pass them.
abbrev pub above : System → (i j : ℕ) → Bool
above sys i j = ltb (sys.processor j) (sys.processor i)

abbrev pub higher : System → (i j : ℕ) → Bool
higher sys i j = eqb (sys.processor j) (sys.processor i) && ltb j i

abbrev pub lower : System → (i j : ℕ) → Bool
lower sys i j = eqb (sys.processor j) (sys.processor i) && ltb i j

abbrev pub sum_above : System → ℕ → (ℕ → ℕ) → ℕ
sum_above sys i f = sum_where (above sys i) f sys.rows

abbrev pub sum_higher : System → ℕ → (ℕ → ℕ) → ℕ
sum_higher sys i f = sum_where (higher sys i) f sys.rows

abbrev pub sum_lower : System → ℕ → (ℕ → ℕ) → ℕ
sum_lower sys i f = sum_where (lower sys i) f sys.rows
