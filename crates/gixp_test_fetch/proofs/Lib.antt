pub mod Taste
