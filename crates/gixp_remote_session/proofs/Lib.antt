mod WebLemmas
mod ListedLemmas
mod ShallowLineLemmas
