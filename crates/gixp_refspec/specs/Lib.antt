-- The definitions that contracts cite.
pub mod Name
pub mod Spec
pub mod RefSpec
pub mod Instruction
pub mod PartialName
pub mod Matching
pub mod Texts
pub mod Needle
pub mod Spelling
pub mod ById
