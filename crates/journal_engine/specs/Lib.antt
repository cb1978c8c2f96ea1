pub mod Engine
pub mod Writing
pub mod Replaying
pub mod Recording
pub mod Ready
