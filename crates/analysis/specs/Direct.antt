-- The paper's bounds read directly, with no search: what each outcome of the analysis says of a set. The analysis gives an
-- outcome exactly where this holds of it, as is shown.
use Rattle.std.specs.Prelude.{ℕ, ◌+◌, ◌*◌, ◌≤◌, ◌<◌, ◌≡◌, List, ◌⊎◌, length}
use Rattle.sheet.specs.declared.Set.{Set}
use Rattle.sheet.specs.Ranges.{row_in}
use Rattle.analysis.specs.Equations.{Equations, limit, busy_at, instances_in, start_at, end_at}
use Rattle.analysis.specs.Bounds.{equations_of, bound_in, Outcome, Accepted, BusyAt, LateAt}

-- y is the least whole number from a on with y = F y.
pub record IsLeast (F : ℕ → ℕ) (a y : ℕ) : Type 0 where
  pub from : a ≤ y
  pub solves : y ≡ F y
  pub least : (z : ℕ) → a ≤ z → z < y → z ≡ F z → ⊥

-- L is the busy length.
pub record IsBusyLength (k : Equations) (L : ℕ) : Type 0 where
  pub least : IsLeast (busy_at k) 1 L
  pub within : L ≤ limit

-- No whole number from 1 to 4,000,000 satisfies the equation of the busy length.
abbrev pub NoBusyLength : Equations → Type 0
NoBusyLength k = (x : ℕ) → 1 ≤ x → x ≤ limit → x ≡ busy_at k x → ⊥

-- Instance q starts at s, ends its memory phase at g and responds in r: f = g + c is r after its release at q × T.
pub record Responds (k : Equations) (q r : ℕ) : Type 0 where
  pub s : ℕ
  pub g : ℕ
  pub starts : IsLeast (start_at k q) 0 s
  pub ends : IsLeast (end_at k q s) 0 g
  pub responds : r + q * k.period ≡ g + k.computation

-- A row with the deadline D has the bound R: no instance passes D, and R is the largest response.
pub record HasBound (k : Equations) (D R : ℕ) : Type 0 where
  pub L : ℕ
  pub length : IsBusyLength k L
  pub each : (q : ℕ) → q < instances_in k L → (r : ℕ) × Responds k q r × (r ≤ D) × (r ≤ R)
  pub one : (q : ℕ) × (q < instances_in k L) × Responds k q R

-- Instance q is the first that passes D.
pub record IsLate (k : Equations) (D q : ℕ) : Type 0 where
  pub L : ℕ
  pub length : IsBusyLength k L
  pub below : q < instances_in k L
  pub late : (r : ℕ) × Responds k q r × (D < r)
  pub before : (p : ℕ) → p < q → (r : ℕ) × Responds k p r × (r ≤ D)

-- The first i rows have bounds, those of a list of i.
pub record HaveBounds (set : Set) (bounds : List ℕ) (i : ℕ) : Type 0 where
  pub number : length bounds ≡ i
  pub row : (j : ℕ) → j < i → HasBound (equations_of set (bound_in bounds) j) (row_in set j).deadline (bound_in bounds j)

-- What each outcome says: every row has its bound; or row i is the first that hasn't, and why.
abbrev pub Says : Set → Outcome → Type 0
Says set (Accepted bounds) = HaveBounds set bounds set.count
Says set (BusyAt i) = (bounds : List ℕ) × (i < set.count) × HaveBounds set bounds i × NoBusyLength (equations_of set (bound_in bounds) i)
Says set (LateAt i q) = (bounds : List ℕ) × (i < set.count) × HaveBounds set bounds i × IsLate (equations_of set (bound_in bounds) i) (row_in set i).deadline q

-- Some row has no busy length within the limit or an instance that passes the deadline, and all rows before it have bounds.
abbrev pub TurnedDown : Set → Type 0
TurnedDown set = (i : ℕ) × (Says set (BusyAt i) ⊎ ((q : ℕ) × Says set (LateAt i q)))
