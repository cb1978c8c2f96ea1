pub mod OrderLemmas
pub mod SameLemmas
