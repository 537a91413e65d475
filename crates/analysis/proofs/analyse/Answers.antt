use mathlib.Core.Path.{subst, sym}
use Rattle.analysis.specs.Parts.{WellRead}
use Rattle.analysis.proofs.AnalysisCases.{sheet_well_read, meets_read}
use Rattle.analysis.proofs.analyse.Goals as goal

pub analyse_reading-requires : goal.analyse_reading-requires
analyse_reading-requires c = subst WellRead (sym c.read.ensures) (sheet_well_read _)

pub returns : goal.returns
returns c =
    let told = c.analyse_reading.ensures in
    let both = meets_read c.args.sheet.now c.args.bounds.now _ _ _ c.read.ensures (told.value, told.bounds_after) in
    record { value = both.0; bounds_after = both.1 }
