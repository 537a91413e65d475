-- A number in decimal.
use Rattle.std.specs.Prelude.{ℕ, zero, suc, ◌+◌, ◌/◌, ◌%◌, true, false, List, [], ◌∷◌, ◌++◌, ltb}
use Prim.Native.Char.{code}

-- One digit.
abbrev pub digit : ℕ → ℕ
digit d = code "0" + d

-- A number below ten is one digit; any other is the digits of a tenth of it, and then its last digit. The first argument
-- only counts the digits that there may be.
unfoldable pub decimal_in : ℕ → ℕ → List ℕ
decimal_in zero n = []
decimal_in (suc most) n = elim (ltb n 10) [ true ↦ digit n ∷ [] | false ↦ decimal_in most (n / 10) ++ (digit (n % 10) ∷ []) ]

-- No number has more digits than one more than itself.
unfoldable pub decimal : ℕ → List ℕ
decimal n = decimal_in (suc n) n
