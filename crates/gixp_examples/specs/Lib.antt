pub mod OneCommit
pub mod RemoteListing
