pub mod Holders
pub mod Registry
pub mod Calls
