pub mod Needing
pub mod Leading
pub mod Restoring
