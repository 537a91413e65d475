pub mod Equations
pub mod Bounds
pub mod Analysis
pub mod Direct
pub mod Entries
pub mod Parts
pub mod Examples
