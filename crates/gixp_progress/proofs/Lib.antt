pub mod DigitLemmas
pub mod NumberLemmas
pub mod PlaceLemmas
pub mod RunLemmas
