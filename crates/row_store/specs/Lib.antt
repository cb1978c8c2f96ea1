pub mod Slots
pub mod Blocks
pub mod Rows
pub mod Turns
pub mod Changes
