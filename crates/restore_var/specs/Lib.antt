pub mod Needs
pub mod Marks
pub mod Restored
pub mod RestoredLaws
