pub mod Progress
pub mod Numbers
pub mod Line
pub mod Order
pub mod Translation
pub mod Laws
