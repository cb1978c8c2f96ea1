pub mod PrefixLemmas
pub mod HeldLemmas
