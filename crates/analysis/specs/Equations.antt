-- The equations of a row, in the paper's order: the busy length L, then for each instance q the start s, the memory end g
-- and the finish f, and what the row comes to. They stand over any numbers and sums; Bounds has those of a set's row.
use Rattle.std.specs.Prelude.{ℕ, ◌+◌, ◌-◌, ◌*◌, Bool, ltb}
use Rattle.laws.specs.Choice.{pick}
use Rattle.laws.specs.Rounding.{up}
use Rattle.laws.specs.Sums.{max_to}
use Rattle.laws.specs.Search.{first}
use Rattle.laws.specs.Least.{least}
use Rattle.std.specs.Prelude.{Option}
use Rattle.std.specs.Prelude.{Some, None}
use Rattle.std.specs.Prelude.{Result}
use Rattle.analysis.specs.declared.Fault.{Fault}
use Rattle.std.specs.Prelude.{Ok, Err}
use Rattle.analysis.specs.declared.Fault.TheVariants.{Busy, Late}

-- What the equations of a row are made of.
pub record Equations : Type 0 where
  -- B
  pub blocked : ℕ
  -- m, c and T
  pub memory : ℕ
  pub computation : ℕ
  pub period : ℕ
  -- the sum over the higher rows of the processor of x/T rounded up, times e
  pub above : ℕ → ℕ
  -- the sum over the higher rows of the processor of (x/T rounded down, plus 1) times e
  pub started : ℕ → ℕ
  -- A
  pub token : ℕ → ℕ

-- e
abbrev pub whole_of : Equations → ℕ
whole_of k = k.memory + k.computation

-- The number up to which a busy length is looked for. No start and no memory end passes L, as is shown.
abbrev pub limit : ℕ
limit = 4000000

abbrev pub number_of : Option ℕ → ℕ
number_of (Some x) = x
number_of None = 0

-- The equation of the busy length: L = B + (the row itself and the higher rows) + A(L).
unfoldable pub busy_at : Equations → ℕ → ℕ
busy_at k x = k.blocked + (k.above x + up x k.period * whole_of k) + k.token x

unfoldable pub busy_length : Equations → Option ℕ
busy_length k = least (busy_at k) 1 limit

-- Instances q run from 0 to one less than this.
abbrev pub instances_in : Equations → ℕ → ℕ
instances_in k L = up L k.period

-- W(s) of instance q.
abbrev pub work_before : Equations → ℕ → ℕ → ℕ
work_before k q s = k.blocked + q * whole_of k + k.started s

-- The equation of the start: s = W(s) + A(s).
unfoldable pub start_at : Equations → ℕ → ℕ → ℕ
start_at k q s = work_before k q s + k.token s

unfoldable pub start : Equations → ℕ → ℕ
start k q = number_of (least (start_at k q) 0 limit)

-- The equation of the memory end: g = W(s) + m + A(g).
unfoldable pub end_at : Equations → ℕ → ℕ → ℕ → ℕ
end_at k q s g = work_before k q s + k.memory + k.token g

unfoldable pub memory_end : Equations → ℕ → ℕ
memory_end k q = number_of (least (end_at k q (start k q)) 0 limit)

-- f
abbrev pub finish : Equations → ℕ → ℕ
finish k q = memory_end k q + k.computation

-- f - q × T
unfoldable pub response : Equations → ℕ → ℕ
response k q = finish k q - q * k.period

-- An instance passes the deadline D.
abbrev pub is_late : Equations → ℕ → ℕ → Bool
is_late k D q = ltb D (response k q)

-- The first of n instances that passes the deadline; where none does, the largest response.
unfoldable pub judged : Equations → ℕ → ℕ → Result ℕ Fault
judged k D n = pick (ltb (first n (is_late k D)) n) (Err (Late (first n (is_late k D)))) (Ok (max_to (response k) n))

-- What a row comes to.
unfoldable pub verdict_of : Equations → ℕ → Result ℕ Fault
verdict_of k D = elim (busy_length k) [ Some L ↦ judged k D (instances_in k L) | None ↦ Err Busy ]
