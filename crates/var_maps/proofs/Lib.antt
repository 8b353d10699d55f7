pub mod Tables
pub mod Pairs
pub mod Matching
