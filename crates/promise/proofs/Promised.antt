-- Demand 3 is shown: for every well-formed set that the analysis accepts, and for every sheet.
use mathlib.Core.Path.{◌≡◌, sym, ap, subst, ◌∙◌}
use mathlib.Core.List.{List}
use Prim.Native.Nat.{ℕ, ◌<◌}
use native.Mathlib.Omega.{arith}
use Rattle.std.specs.Prelude.{Ok}
use Rattle.laws.specs.ChoiceLaws.{pick_true}
use Rattle.sheet.specs.Refusals.{accepts, carried}
use Rattle.sheet.specs.Ranges.{WellFormed}
use Rattle.sheet.specs.Reading.{set_of}
use Rattle.sheet.specs.declared.Set.{Set}
use Rattle.sheet.specs.declared.Refusal.{Refusal}
use Rattle.sheet.specs.declared.Reading.{Reading}
use Rattle.sheet.proofs.ReadingLaws.{well_formed}
use Rattle.analysis.specs.Bounds.{bound_in}
use Rattle.analysis.specs.Analysis.{analysed}
use Rattle.analysis.proofs.AcceptedSheet.{AcceptedSheet, accepted_sheet, bound_written}
use Rattle.board.specs.declared.State.{State}
use Rattle.board.specs.States.{start_set}
use Rattle.board.specs.Calls.{start_reading, start_of}
use Rattle.board.proofs.Pointwise.{start_set_lem}
use Rattle.runs.specs.Runs.{release, calls}
use Rattle.runs.proofs.Calling.{accepted_release}
use Rattle.runs.proofs.OfSets.{row_of_set}
use Rattle.runs.proofs.FirstBoard.{call_how, of_set}
use Rattle.promise.specs.Promises.{RowInTime, Promises, PromisedOfSets, PromisedOfSheets}
use Rattle.promise.proofs.Acceptance.{accepted_system, row_bound}
use Rattle.promise.proofs.Sound as sound

pub promised_of_sets : PromisedOfSets
promised_of_sets set bounds w e =
    sound.promises set (bound_in bounds) w (accepted_system set w bounds e) (λ i l. (row_bound set w bounds e i l).deadline_most)

-- Promises with bounds that are the same for every row.
promises_same : (set : Set) → WellFormed set → (a b : ℕ → ℕ) → ((i : ℕ) → i < set.count → a i ≡ b i) → Promises (start_set set) a → Promises (start_set set) b
promises_same set w a b same p =
    record {
      in_time = λ cs i l. subst (RowInTime (calls (start_set set) cs) i) (same i (subst (λ (x : Set). i < x.count) (start_set_lem set) l)) (p.in_time cs i l);
      complete = λ before i after e enough.
          let s = calls (start_set set) before in
          let n = (accepted_release (call_how s (release i)) (ap accepts e)).0.below in
          p.complete before i after e (omega (arith, enough, same i (row_of_set (of_set set w before) i n)));
      never_live = p.never_live;
    }

-- A sheet's board starts from the set that it says.
module _ (sheet buffer : List ℕ) (a : AcceptedSheet sheet buffer) where
  fresh_start : (start_of sheet).state ≡ start_set (set_of sheet)
  unfolding start_of start_reading
  fresh_start =
      pick_true _ _ _ (ap (λ (r : Reading). accepts (carried r.refusal)) a.reading)
      ∙ ap (λ (r : Reading). start_set r.set) a.reading

  starts : (start_of sheet).refusal ≡ Ok (tt {0})
  unfolding start_of start_reading
  starts = ap (λ (r : Reading). r.refusal) a.reading

pub promised_of_sheets : PromisedOfSheets
promised_of_sheets sheet buffer h =
    let a = accepted_sheet sheet buffer (ap (λ (r : Refusal). r.number) h) in
    let w = well_formed sheet a.reads in
    record {
      starts = starts sheet buffer a;
      holds =
          subst (λ (s : State). Promises s (bound_in (analysed sheet buffer))) (sym (fresh_start sheet buffer a))
          (promises_same (set_of sheet) w _ _ (λ i l. sym (bound_written sheet buffer a i l)) (promised_of_sets (set_of sheet) a.bounds w a.outcome));
    }
