pub mod FrontLemmas
pub mod MeaningLemmas
pub mod NumberLemmas
pub mod PrefixLemmas
pub mod SpaceLemmas
pub mod StepLemmas
pub mod WordLemmas
