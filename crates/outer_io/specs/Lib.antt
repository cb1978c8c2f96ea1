pub mod Ends
pub mod Memory
pub use Rattle.fault_counts.specs.Rose
