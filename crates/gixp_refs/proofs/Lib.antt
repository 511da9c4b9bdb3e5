mod TrimLemmas
mod AnswerLemmas
mod WrittenLemmas
pub mod RefsLemmas
mod AdvertisementLemmas
mod SymrefLemmas
mod TableLemmas
mod GroupLemmas
mod RefusedGroupLemmas
