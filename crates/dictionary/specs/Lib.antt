pub mod Dictionary
pub mod Inside
