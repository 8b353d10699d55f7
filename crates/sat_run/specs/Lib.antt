pub mod Words
pub mod Questions
pub mod Writing
pub mod Reports
pub mod World
pub mod Progress
pub mod Errors
pub mod Runs
