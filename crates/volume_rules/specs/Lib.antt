pub mod Readers
pub mod Images
pub mod Steps
