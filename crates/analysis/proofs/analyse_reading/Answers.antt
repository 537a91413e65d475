use mathlib.Core.Path.{◌≡◌, ap}
use mathlib.Core.List.{List, ◌++◌}
use lib.ListN.{drop}
use Rattle.std.proofs.Common.{ℕ, rules, Err}
use Rattle.analysis.proofs.AnalysisCases.{meets_unread, meets_no_room, meets_refused, meets_accepted}
use Rattle.analysis.proofs.analyse_reading.Goals as goal

pub returns-in_err-reading : goal.returns-in_err-reading
returns-in_err-reading c =
    let z : c.from_residual.result ≡ Err c.in_err-reading.field-0.0 = search rules in
    let both = meets_unread c.args.reading c.args.bounds.now c.requires _ c.in_err-reading.was in
    rw z (record { value = both.0; bounds_after = both.1 })

pub returns-then-bounds-n : goal.returns-then-bounds-n
returns-then-bounds-n c =
    let both = meets_no_room c.args.reading c.args.bounds.now c.requires _ c.in_ok-reading.was c.if-bounds-n.true _ c.new.ensures in
    record { value = both.0; bounds_after = both.1 }

pub returns-in_err-work : goal.returns-in_err-work
returns-in_err-work c =
    let z : c.from_residual-in_err-work.result ≡ Err c.in_err-work.field-0.0 = search rules in
    let both = meets_refused c.args.reading c.args.bounds.now c.requires _ c.in_ok-reading.was c.if-bounds-n.false _ c.in_err-work.ensures in
    rw z (record { value = both.0; bounds_after = both.1 })

pub returns : goal.returns
returns c =
    let written = ap (λ (l : List ℕ). l ++ drop c.args.reading.set.count c.args.bounds.now) c.copy_from_slice.ensures.after in
    let both = meets_accepted c.args.reading c.args.bounds.now c.requires _ c.in_ok-reading.was c.if-bounds-n.false _ c.in_ok-work.ensures _ written in
    record { value = both.0; bounds_after = both.1 }
