-- The analysis: reading, then 12, then rows in order, each 10 before 11; and what the lent buffer holds afterwards.
use Rattle.std.specs.Prelude.{ℕ, List, [], ◌∷◌, ◌++◌, ltb, length, drop}
use Rattle.laws.specs.Choice.{pick, ◌gives◌, first_of}
use Rattle.sheet.specs.declared.Refusal.{Refusal}
use Rattle.sheet.specs.declared.Reading.{Reading}
use Rattle.sheet.specs.Refusals.{BUSY, LATE, ROOM, refused, accepted, accepts, carried, or_else}
use Rattle.sheet.specs.Reading.{read_sheet}
use Rattle.analysis.specs.Bounds.{Outcome, Accepted, BusyAt, LateAt, analyse_set}

-- The refusal that each outcome is.
abbrev pub refusal_of : Outcome → Refusal
refusal_of (Accepted bounds) = accepted
refusal_of (BusyAt i) = refused BUSY i
refusal_of (LateAt i q) = record { number = LATE; row = i; instance = q }

-- Fewer than n places for bounds.
abbrev pub room_refusal : ℕ → ℕ → Refusal
room_refusal n places = refused (first_of (ltb places n gives ROOM ∷ [])) 0

-- The analysis of what was read, with so many places for bounds.
unfoldable pub reading_refusal : Reading → ℕ → Refusal
reading_refusal reading places =
    or_else (carried reading.refusal) (or_else (room_refusal reading.set.count places) (refusal_of (analyse_set reading.set)))

-- A buffer with an outcome's bounds in its first places.
abbrev pub filled : Outcome → List ℕ → List ℕ
filled (Accepted bounds) buffer = bounds ++ drop (length bounds) buffer
filled (BusyAt i) buffer = buffer
filled (LateAt i q) buffer = buffer

-- A refusal writes nothing.
unfoldable pub reading_bounds : Reading → List ℕ → List ℕ
reading_bounds reading buffer =
    pick (accepts (reading_refusal reading (length buffer))) (filled (analyse_set reading.set) buffer) buffer

-- The analysis of a sheet.
unfoldable pub analyse_refusal : List ℕ → ℕ → Refusal
analyse_refusal sheet places = reading_refusal (read_sheet sheet) places

unfoldable pub analysed : List ℕ → List ℕ → List ℕ
analysed sheet buffer = reading_bounds (read_sheet sheet) buffer
