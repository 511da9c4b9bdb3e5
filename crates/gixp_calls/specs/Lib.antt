pub mod Codes
pub mod EngineCodes
pub mod Exports
pub mod NextExport
