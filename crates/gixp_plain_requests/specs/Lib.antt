pub mod Advertisement
pub mod Lacks
pub mod Lines
pub mod Reads
pub mod Request
pub mod Room
