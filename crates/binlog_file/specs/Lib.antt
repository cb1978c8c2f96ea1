pub mod Logged
pub mod Binlog
pub mod Tail
pub mod Opening
