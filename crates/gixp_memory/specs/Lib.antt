pub use Rattle.gixp_utils.specs.Lines
pub mod Memory
pub mod RefEntries
pub mod Repository
pub mod Text
