-- The right sides of the paper's equations for row i. B, the blocking, may be any number.
use Rattle.std.specs.Prelude.{ℕ, ◌+◌, ◌-◌, ◌*◌, ◌/◌}
use Rattle.laws.specs.Rounding.{up}
use Rattle.theory.specs.System.{System, work, sum_above, sum_higher}

-- The most memory ticks of row j, of a higher-ranked processor, in x ticks.
unfoldable pub memory_within : System → (x j : ℕ) → ℕ
memory_within sys x j = up (x + sys.bound j - work sys j) (sys.period j) * sys.memory j

-- A(x)
unfoldable pub interference : System → (i x : ℕ) → ℕ
interference sys i x = sum_above sys i (memory_within sys x)

-- The work that row j's releases bring, one each period from 0 on: those before x, and those up to x.
unfoldable pub brought_before : System → (x j : ℕ) → ℕ
brought_before sys x j = up x (sys.period j) * work sys j

unfoldable pub brought_up_to : System → (x j : ℕ) → ℕ
brought_up_to sys x j = (x / sys.period j + 1) * work sys j

-- L is a solution of L = busy_demand L.
unfoldable pub busy_demand : System → (i B x : ℕ) → ℕ
busy_demand sys i B x = B + (sum_higher sys i (brought_before sys x) + brought_before sys x i) + interference sys i x

-- W(s) of instance q
unfoldable pub ahead : System → (i B q s : ℕ) → ℕ
ahead sys i B q s = B + q * work sys i + sum_higher sys i (brought_up_to sys s)

-- s is a solution of s = start_demand s, and g, for that s, of g = memory_demand s g.
unfoldable pub start_demand : System → (i B q s : ℕ) → ℕ
start_demand sys i B q s = ahead sys i B q s + interference sys i s

unfoldable pub memory_demand : System → (i B q s g : ℕ) → ℕ
memory_demand sys i B q s g = ahead sys i B q s + sys.memory i + interference sys i g
