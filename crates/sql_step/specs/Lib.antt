pub mod Catalogs
pub mod Looks
pub mod Outcomes
pub mod Steps
pub mod Logs
