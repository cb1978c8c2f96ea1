pub mod Codes
pub mod States
pub mod Live
pub mod Scans
pub mod Reads
pub mod Calls
pub mod Many
