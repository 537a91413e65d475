pub mod Refusals
pub mod Layout
pub mod Ranges
pub mod Reading
pub mod Showing
pub mod Writing
pub mod Examples
