use mathlib.Core.Path.{◌∙◌, ap}
use Rattle.sheet.specs.declared.Refusal.{Refusal}
use Rattle.sheet.specs.Refusals.{carried}
use Rattle.sheet.proofs.AnswerLaws.{carried_answer}
use Rattle.analysis.proofs.Determined.{analyse_carries}
use Rattle.bench.proofs.analyses.bench_analyse.Goals as goal

pub returns : goal.returns
returns c = let told = c.analyse.ensures in
    let refusal = c.carried-refusal.ensures ∙ ap carried told.value ∙ carried_answer _ (analyse_carries _ _) in
    record { bounds_after = told.bounds_after; number_after = ap (λ (r : Refusal). r.number) refusal; row_after = ap (λ (r : Refusal). r.row) refusal; instance_after = ap (λ (r : Refusal). r.instance) refusal }
