-- Showing a row: its 17 bytes, as a part of the caller's own sheet.
use Rattle.std.specs.Prelude.{ℕ, ◌+◌, ◌≡◌, Bool, false, List, [], ltb}
use Rattle.std.specs.Borrow.{Bor}
use Rattle.laws.specs.Choice.{pick}
use Rattle.sheet.specs.Refusals.{accepts}
use Rattle.sheet.specs.Layout.{count_of, row_start, part_of}
use Rattle.sheet.specs.Reading.{read_refusal}

-- The sheet reads, and r is below n.
unfoldable pub is_shown : List ℕ → ℕ → Bool
is_shown s r = pick (accepts (read_refusal s)) (ltb r (count_of s)) false

-- The part shown is row r's, at byte 6 + 18 × r of the sheet; otherwise the empty part at the sheet's start.
pub record Shown (sheet : Bor (List ℕ)) (r : ℕ) (part : Bor (List ℕ)) : Type 0 where
  pub there : part.ref_ptr ≡ pick (is_shown sheet.now r) (sheet.ref_ptr.0, row_start r + sheet.ref_ptr.1) sheet.ref_ptr
  pub bytes : part.now ≡ pick (is_shown sheet.now r) (part_of sheet.now r) []
