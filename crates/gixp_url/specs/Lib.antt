pub mod Text
pub mod Decoded
pub mod Host
pub mod Url
pub mod Password
