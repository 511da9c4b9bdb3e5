pub mod FrameLemmas
pub mod OrderLemmas
pub mod PartsLemmas
