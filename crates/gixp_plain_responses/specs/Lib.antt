pub mod Acknowledgement
pub mod Band
pub mod Detailed
pub mod Order
pub mod Translation
