pub mod AcknowledgementLemmas
pub mod FrameLemmas
pub mod GivenLemmas
pub mod OrderLemmas
pub mod RoomLemmas
