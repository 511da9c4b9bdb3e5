pub mod Answers
pub mod Order
pub mod Others
pub mod Whole
