pub mod Ids
pub mod Lenient
pub mod Recorder
pub mod Repository
pub mod ProgressLog
pub use Rattle.gixp_memory.specs.Repository as MemoryRepository
