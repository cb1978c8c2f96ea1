pub mod Schemas
pub mod Rows
pub mod Spelling
pub mod Changes
pub mod Absence
pub mod Reading
