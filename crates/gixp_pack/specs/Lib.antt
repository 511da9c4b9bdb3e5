pub mod Pack
pub mod Taken
