pub mod WordLemmas
pub mod RelayLemmas
pub mod RelayRunLemmas
