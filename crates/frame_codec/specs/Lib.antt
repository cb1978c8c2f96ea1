pub mod Bytes
pub mod Crc
pub mod Tables
pub mod Frame
pub mod Header
pub mod Chain
pub mod Read
pub mod Short
