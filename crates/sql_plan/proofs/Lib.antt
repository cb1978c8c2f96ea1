pub mod TypeLemmas
pub mod TableLemmas
