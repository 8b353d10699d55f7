pub mod States
pub mod Events
pub mod Turns
pub mod TurnLaws
