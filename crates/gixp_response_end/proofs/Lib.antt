pub mod AnswersLemmas
pub mod FrameEndLemmas
pub mod WholeLemmas
