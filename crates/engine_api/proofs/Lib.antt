pub mod ManyLemmas
pub mod FlushLemmas
pub mod TurnLemmas
pub mod TestLemmas
pub mod AtWorkLemmas
