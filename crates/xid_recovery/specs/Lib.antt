pub mod Pairs
pub mod Faults
pub mod Recovers
pub mod Running
