pub mod ListLemmas
mod NumberLemmas
mod FrameLemmas
mod WindowLemmas
mod PacketLemmas
mod FillLemmas
mod PacketLineLemmas
mod AdvanceLemmas
mod GrammarLemmas
mod FrameTextLemmas
mod ItemLemmas
pub mod RunLemmas
pub mod LineLemmas
pub mod PartsLemmas
pub mod ReadingLemmas
