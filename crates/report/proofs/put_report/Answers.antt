use Rattle.report.proofs.ReportLaws.{report_refused, report_accepted}
use Rattle.report.proofs.put_report.Goals as goal

pub returns-in-Ok : goal.returns-in-Ok
returns-in-Ok c =
    let told = c.analyse.ensures in
    rw (report_accepted _ _ told.value _ c.in-Ok.is _ c.read.ensures _ told.bounds_after) at c.put_accepted.ensures

pub returns-in-Err : goal.returns-in-Err
returns-in-Err c =
    rw (report_refused _ _ c.analyse.ensures.value _ c.in-Err.is) at c.put_refusal.ensures
