use Rattle.std.specs.Prelude.{◌≡◌, ℕ, ◌≤◌, List, length, get_or}
use Rattle.sheet.specs.Layout as layout
use Rattle.sheet.specs.Ranges as ranges
use Rattle.sheet.specs.declared.Row.{Row}
use Rattle.sheet.proofs.WritingLaws as laws
use Rattle.sheet.proofs.write.Given as goal

abbrev pub row_of : List Row → ℕ → Row
row_of rows i = get_or rows i ranges.zero_row

-- The header and the records below i are written.
pub record Going (count : ℕ) (rows : List Row) (begun out : List ℕ) (i : ℕ) : Type 0 where
  pub few : count ≤ 32
  pub within : i ≤ count
  pub room : layout.length_for count ≤ length begun
  pub long : length out ≡ length begun
  pub same : out ≡ laws.partly (row_of rows) begun i

abbrev pub invariant-loop-i : goal.invariant-loop-i
invariant-loop-i l = Going l.count l.set.rows (laws.begun l.set l.fn.out) l.out l.i
