pub mod RecordLemmas
pub mod HeldLemmas
pub mod TurnLemmas
pub mod SpeltLemmas
pub mod CallLemmas
pub mod WriteLemmas
pub mod EndLemmas
pub mod PutLemmas
pub mod RoomLemmas
pub mod LoadLemmas
pub mod OpeningLemmas
pub mod RecordingLemmas
mod ReadyLemmas
