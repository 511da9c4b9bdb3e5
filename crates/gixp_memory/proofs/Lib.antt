pub mod StoredLemmas
pub mod TextLemmas
