mod LookLemmas
mod AskLemmas
mod SearchLemmas
mod ModeLemmas
pub mod NamedLemmas
mod NoteLemmas
mod LimitLemmas
