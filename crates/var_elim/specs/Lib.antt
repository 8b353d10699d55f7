pub mod Eliminating
pub mod Subsumption
pub mod Dropping
pub mod Marks
pub mod Marked
