pub use Rattle.hex.specs.Hex
pub mod ObjectId
pub mod Digits
pub mod IdLaws
pub mod Failures
