pub mod Known
pub mod Refusals
pub mod Runs
pub mod TurnRuns
