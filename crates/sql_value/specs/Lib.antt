pub mod Comparison
pub mod Names
pub mod Refusals
pub mod Sums
pub mod Truth
pub mod Values
