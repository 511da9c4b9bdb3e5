pub mod AppendedLemmas
pub mod RepeatLemmas
