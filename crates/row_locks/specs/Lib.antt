pub mod Modes
pub mod Queues
pub mod Cycles
pub mod Answers
pub mod Inside
