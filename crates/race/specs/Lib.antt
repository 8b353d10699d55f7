pub mod Watching
pub mod Running
pub mod Homes
pub mod Seating
pub mod Answers
pub mod Laws
