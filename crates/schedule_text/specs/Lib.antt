pub mod Front
pub mod Inside
pub mod Lines
pub mod Printed
