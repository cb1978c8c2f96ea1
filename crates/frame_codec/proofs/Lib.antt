pub mod CrcLemmas
pub mod LayoutLemmas
pub mod ReadLemmas
pub mod FrameLemmas
pub mod ChainLemmas
pub mod CrcBounds
