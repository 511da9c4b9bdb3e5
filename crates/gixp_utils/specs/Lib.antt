pub mod Lines
pub mod Pieces
pub mod Printable
pub mod Repeats
