pub mod Sorted
pub mod Status
