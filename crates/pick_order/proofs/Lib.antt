pub mod Matches
pub mod Taking
pub mod Queueing
pub mod Raising
