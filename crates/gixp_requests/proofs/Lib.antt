mod AppendLemmas
mod ArgumentLemmas
mod RequestLemmas
mod PartLemmas
mod OfferLemmas
