pub mod State
pub mod Kept
pub mod Errors
pub mod Answers
pub mod Laws
pub mod Decisions
