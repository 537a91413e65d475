pub mod ReportLaws
pub mod Determined
pub mod ExamplesHold
pub mod Fits
