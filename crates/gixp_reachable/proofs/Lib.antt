mod IdLemmas
mod TraversalLemmas
mod ReachedLemmas
