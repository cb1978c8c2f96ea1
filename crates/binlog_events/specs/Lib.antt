pub mod Changes
pub mod Items
pub mod Transaction
pub mod Found
pub mod Frames
pub mod Walking
