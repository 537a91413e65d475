pub mod Faults
pub mod Words
pub mod Meaning
pub mod Composing
pub mod Listing
pub mod Parts
pub mod Examples
