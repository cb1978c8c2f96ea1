pub mod HolderLemmas
pub mod SlotLemmas
pub mod FindLemmas
pub mod KeepLemmas
pub mod CallLemmas
