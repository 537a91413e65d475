-- In reading order. The theorem is proofs/Soundness: in a system that is accepted, every reachable snapshot has every row in time.
pub mod System
pub mod Snapshot
pub mod Steps
pub mod Reachable
pub mod Equations
pub mod Accepted
