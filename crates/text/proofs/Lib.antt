pub mod PuttingLaws
pub mod DecimalLaws
pub mod Lengths
pub mod Determined
