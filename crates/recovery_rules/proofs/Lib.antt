pub mod TrailsLemmas
pub mod RecoveryLemmas
pub mod DistinctLemmas
pub mod Examples
