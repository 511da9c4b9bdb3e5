pub mod NameLemmas
pub mod SpecLemmas
pub mod TextLemmas
pub mod MatchLemmas
pub mod PrefixLemmas
pub mod CoverLemmas
pub mod StarLemmas
pub mod IdLemmas
