pub mod Observed
pub mod Steps
pub mod Reached
pub mod AnyBoard
pub mod Sound
pub mod Acceptance
pub mod Promised
pub mod ExamplesHold
