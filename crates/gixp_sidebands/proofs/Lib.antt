mod PieceLemmas
mod BandLemmas
mod ContentLemmas
mod TellLemmas
mod AskLemmas
mod BandItemLemmas
pub mod EndLemmas
pub mod PassLemmas
