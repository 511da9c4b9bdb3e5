pub mod Listed
pub mod Slow
