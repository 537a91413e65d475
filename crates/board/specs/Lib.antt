pub mod States
pub mod Shape
pub mod Rules
pub mod Calls
pub mod Work
pub mod Parts
