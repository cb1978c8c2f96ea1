pub mod XidLemmas
pub mod WayLemmas
pub mod RunLemmas
pub mod TurnLemmas
pub mod OneLemmas
pub mod ElsewhereLemmas
