pub mod EliminatingLaws
pub mod Marking
pub mod Subsuming
pub mod Implying
pub mod Counting
pub mod Meeting
