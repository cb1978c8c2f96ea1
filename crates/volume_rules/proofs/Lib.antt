pub mod ListLemmas
pub mod StepLemmas
pub mod ImageLemmas
pub mod MomentLemmas
pub mod SameLemmas
pub mod OpenLemmas
