pub mod SetLemmas
pub mod TextLemmas
pub mod FileLemmas
pub mod ReadBackLemmas
pub mod WishLemmas
