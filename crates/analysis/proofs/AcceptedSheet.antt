-- What an accepted analysis of a sheet says: the sheet reads, and its set was accepted with the bounds that were written.
use mathlib.Core.Path.{◌≡◌, refl, sym, ap, subst, ◌∙◌}
use mathlib.Core.List.{List, ◌++◌}
use Prim.Native.Nat.{ℕ, ◌<◌}
use native.Mathlib.Omega.{arith}
use lib.ListN.{length, drop, get_or-append}
use borrow.Author.Tests.{eq-eqb}
use Rattle.laws.specs.ChoiceLaws.{pick_true}
use Rattle.std.specs.Prelude.{Ok}
use Rattle.sheet.specs.declared.Refusal.{Refusal}
use Rattle.sheet.specs.Refusals.{carried, or_else}
use Rattle.sheet.specs.Reading.{read_refusal, set_of, read_sheet}
use Rattle.sheet.specs.declared.Reading.{Reading}
use Rattle.sheet.proofs.Faults.{both_accept}
use Rattle.sheet.proofs.ReadingLaws.{well_formed, read_accepted, read_carried}
use Rattle.analysis.specs.Bounds.{Outcome, Accepted, BusyAt, LateAt, bound_in, analyse_set}
use Rattle.analysis.specs.Analysis.{refusal_of, room_refusal, filled, reading_refusal, reading_bounds, analyse_refusal, analysed}
use Rattle.analysis.proofs.AcceptedBounds.{bounds_number}

pub record AcceptedSheet (sheet buffer : List ℕ) : Type 0 where
  pub reads : (read_refusal sheet).number ≡ 0
  pub reading : read_sheet sheet ≡ record { refusal = Ok (tt {0}); set = set_of sheet }
  pub bounds : List ℕ
  pub outcome : analyse_set (set_of sheet) ≡ Accepted bounds
  pub written : analysed sheet buffer ≡ bounds ++ drop (length bounds) buffer

module _ (sheet buffer : List ℕ) (h : (analyse_refusal sheet (length buffer)).number ≡ 0) where
  parts : ((carried (read_sheet sheet).refusal).number ≡ 0) × ((refusal_of (analyse_set (read_sheet sheet).set)).number ≡ 0)
  unfolding analyse_refusal reading_refusal
  parts =
      let r = read_sheet sheet in
      let p = both_accept (carried r.refusal) (or_else (room_refusal r.set.count (length buffer)) (refusal_of (analyse_set r.set))) h in
      (p.0, (both_accept (room_refusal r.set.count (length buffer)) (refusal_of (analyse_set r.set)) p.1).1)

  sheet_reads : (read_refusal sheet).number ≡ 0
  sheet_reads = ap (λ (r : Refusal). r.number) (sym (read_carried sheet)) ∙ parts.0

  what_is_read : read_sheet sheet ≡ record { refusal = Ok (tt {0}); set = set_of sheet }
  what_is_read = sym (read_accepted sheet sheet_reads)

  set_accepted : (bounds : List ℕ) × (analyse_set (set_of sheet) ≡ Accepted bounds)
  set_accepted = go (analyse_set (set_of sheet)) refl (subst (λ (r : Reading). (refusal_of (analyse_set r.set)).number ≡ 0) what_is_read parts.1)
    where
      go : (o : Outcome) → analyse_set (set_of sheet) ≡ o → (refusal_of o).number ≡ 0 → (bounds : List ℕ) × (analyse_set (set_of sheet) ≡ Accepted bounds)
      go (Accepted bs) e z = (bs, e)
      go (BusyAt i) e z = absurd (omega (arith, z))
      go (LateAt i q) e z = absurd (omega (arith, z))

  bounds_written : analysed sheet buffer ≡ set_accepted.0 ++ drop (length set_accepted.0) buffer
  unfolding analysed reading_bounds analyse_refusal
  bounds_written =
      pick_true _ _ _ (eq-eqb _ _ h)
      ∙ ap (λ (r : Reading). filled (analyse_set r.set) buffer) what_is_read
      ∙ ap (λ (o : Outcome). filled o buffer) set_accepted.1

  pub accepted_sheet : AcceptedSheet sheet buffer
  accepted_sheet =
      record { reads = sheet_reads; reading = what_is_read; bounds = set_accepted.0; outcome = set_accepted.1; written = bounds_written }

-- The bound of each row stands in its place.
pub bound_written : (sheet buffer : List ℕ) → (a : AcceptedSheet sheet buffer) → (i : ℕ) → i < (set_of sheet).count → bound_in (analysed sheet buffer) i ≡ bound_in a.bounds i
bound_written sheet buffer a i l =
    ap (λ (b : List ℕ). bound_in b i) a.written
    ∙ get_or-append a.bounds (drop (length a.bounds) buffer) 0 i (omega (arith, l, bounds_number (set_of sheet) (well_formed sheet a.reads) a.bounds a.outcome))
