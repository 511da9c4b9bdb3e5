pub use Rattle.gixp_packetline.specs.Pieces
pub use Rattle.gixp_packetline.specs.Reading
pub mod Cut
pub mod Client
pub mod Capabilities
pub mod Capability
pub mod ClientMessage
