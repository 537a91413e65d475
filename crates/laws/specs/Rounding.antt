-- Rounding up. (Rounding down is `/` itself.)
use Rattle.std.specs.Prelude.{ℕ, ◌+◌, ◌-◌, ◌/◌}

-- a / b rounded up
abbrev pub up : ℕ → ℕ → ℕ
up a b = (a + b - 1) / b
