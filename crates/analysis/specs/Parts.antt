-- What this crate's own functions ask of one another; only their contracts cite it.
use Rattle.std.specs.Prelude.{⊤, ℕ, ◌≤◌, ◌<◌, ◌≡◌, List, length, get_or, take, Some, Result, Ok, Err}
use Rattle.laws.specs.Least.{least}
use Rattle.sheet.specs.declared.Set.{Set}
use Rattle.sheet.specs.declared.Refusal.{Refusal}
use Rattle.sheet.specs.declared.Reading.{Reading}
use Rattle.sheet.specs.Refusals.{carried, answered}
use Rattle.sheet.specs.Ranges.{WellFormed}
use Rattle.analysis.specs.Bounds.{Accepted, blocking, analyse_set}
use Rattle.analysis.specs.Analysis.{refusal_of}
use Rattle.analysis.specs.Equations.{Equations, limit, number_of, busy_length, instances_in, start_at, start}
use Rattle.analysis.specs.Entries.{places, entry_equations}
use Rattle.analysis.specs.declared.solving.Equations.{Equations as Held}

-- The equations that the code holds.
abbrev pub said : Held → Equations
said k = entry_equations k.ranked.now k.higher.now k.row k.blocked

-- The least solution of x = F x.
abbrev pub solution : (ℕ → ℕ) → ℕ
solution F = number_of (least F 0 limit)

-- A search for a solution that exists may begin, or go on, at x.
pub record Warm (F : ℕ → ℕ) (x : ℕ) : Type 0 where
  pub exists : least F 0 limit ≡ Some (solution F)
  pub under : x ≤ solution F
  pub rises : x ≤ F x

-- Instance q's turn, in a row with a busy length; its start is looked for from x on.
pub record Turn (k : Equations) (q x : ℕ) : Type 0 where
  pub length : ℕ
  pub found : busy_length k ≡ Some length
  pub below : q < instances_in k length
  pub under : x ≤ start k q
  pub rises : x ≤ start_at k q x

-- B of every row of a set.
pub record Blocks (set : Set) (blocked : List ℕ) : Type 0 where
  pub long : length blocked ≡ places
  pub block : (i : ℕ) → i < set.count → get_or blocked i 0 ≡ blocking set i

-- What a set comes to: its bounds, or its refusal.
pub record Accepts (set : Set) (bounds : List ℕ) : Type 0 where
  pub outcome : analyse_set set ≡ Accepted (take set.count bounds)
  pub long : length bounds ≡ places

pub record Refuses (set : Set) (refusal : Refusal) : Type 0 where
  pub refusal_is : refusal ≡ refusal_of (analyse_set set)
  pub some : refusal.number ≡ 0 → ⊥

abbrev pub Answers : Set → List ℕ → Result ⊤ Refusal → Type 0
Answers set bounds (Ok nothing) = Accepts set bounds
Answers set bounds (Err refusal) = Refuses set refusal

-- What the analysis needs of a reading: an error carries a number, and where it is accepted, its set is well-formed.
pub record WellRead (reading : Reading) : Type 0 where
  pub answers : reading.refusal ≡ answered (carried reading.refusal)
  pub formed : (carried reading.refusal).number ≡ 0 → WellFormed reading.set
