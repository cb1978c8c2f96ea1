pub mod Pages
pub mod Format
pub mod Kept
pub mod Writes
pub mod Claims
