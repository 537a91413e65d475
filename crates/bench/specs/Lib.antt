pub mod Digest
pub mod Calls
pub mod Readings
