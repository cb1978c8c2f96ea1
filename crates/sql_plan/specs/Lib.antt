pub mod Names
pub mod Types
pub mod Tables
pub mod Plans
