pub mod ListedLemmas
pub mod SlowLemmas
