-- The least whole number from a start to a limit that a function leaves as it is.
use Rattle.std.specs.Prelude.{ℕ, zero, suc, ◌-◌, true, false, eqb}
use Rattle.std.specs.Prelude.{Option}
use Rattle.std.specs.Prelude.{Some, None}

-- the first of the `tries` numbers from x on that equals F of itself
unfoldable pub solution_from : (ℕ → ℕ) → ℕ → ℕ → Option ℕ
solution_from F zero x = None
solution_from F (suc tries) x = elim (eqb x (F x)) [ true ↦ Some x | false ↦ solution_from F tries (suc x) ]

-- the least x from `from` to `limit` with x = F x
unfoldable pub least : (F : ℕ → ℕ) (from limit : ℕ) → Option ℕ
least F from limit = solution_from F (suc limit - from) from
