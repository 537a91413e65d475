-- A digest of many numbers: two programs that saw the same numbers in the same order have the same one.
use Rattle.std.specs.Prelude.{ℕ, ◌+◌, ◌*◌, ◌%◌}

-- How many digests there are: each is a word of 32 bits.
abbrev pub digests : ℕ
digests = 4294967296

-- A digest with one more number in it.
abbrev pub mix : ℕ → ℕ → ℕ
mix digest number = (digest * 31 + number) % digests
