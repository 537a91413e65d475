-- The paper's sheets A and C6, and what is printed for them.
use Rattle.std.specs.Prelude.{◌≡◌}
use Rattle.sheet.specs.Writing.{sheet_of}
use Rattle.sheet.specs.Examples.{example_c6, sheet_a}
use Rattle.text.specs.Ascii.{ascii}
use Rattle.report.specs.Report.{report_of}

pub record Printed : Type 0 where
  pub for_a : report_of sheet_a ≡ ascii "accepted 2\nrow processor bound deadline\n0 0 2 4\n1 1 6 12\n"
  pub for_c6 : report_of (sheet_of example_c6) ≡ ascii "refused 11 2 1\n"
