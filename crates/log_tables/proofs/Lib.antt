pub mod PartLemmas
pub mod KeyLemmas
pub mod FoldLemmas
pub mod PlainLemmas
pub mod OrderLemmas
pub mod PlaceLemmas
