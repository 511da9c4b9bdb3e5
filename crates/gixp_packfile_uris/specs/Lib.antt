pub mod Line
pub mod Order
pub mod Parts
pub mod Sink
pub mod Uris
