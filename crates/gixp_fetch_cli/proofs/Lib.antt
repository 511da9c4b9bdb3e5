mod LineLemmas
mod OptionLemmas
