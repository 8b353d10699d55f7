pub mod Views
pub mod Answers
pub mod Board
pub mod Steps
pub mod Rule
pub mod Laws
