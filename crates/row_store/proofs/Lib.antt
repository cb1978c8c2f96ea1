pub mod SlotLemmas
pub mod KeyLemmas
pub mod FindLemmas
mod ChangeLemmas
pub mod EditLemmas
pub mod KeptLemmas
pub mod TurnLemmas
mod BlockLemmas
mod OrderLemmas
