mod CutLemmas
mod CapabilityLemmas
