pub mod InUse
pub mod Ordering
pub mod Learning
pub mod Assumed
pub mod Answers
pub mod Searching
