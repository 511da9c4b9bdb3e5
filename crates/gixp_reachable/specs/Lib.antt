pub use Rattle.gixp_graph.specs.Asked
pub use Rattle.gixp_graph.specs.Object
pub use Rattle.gixp_graph.specs.Refusals
pub use Rattle.gixp_hash.specs.Failures
pub mod Ids
pub mod Reachable
pub mod Reached
pub mod Traversal
