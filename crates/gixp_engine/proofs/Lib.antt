pub mod AloneLemmas
pub mod HandedLemmas
pub mod LimitsLemmas
pub mod LossesLemmas
