pub mod LookLemmas
pub mod CarryLemmas
pub mod StepLemmas
pub mod LawLemmas
