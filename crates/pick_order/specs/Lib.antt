pub mod Candidates
pub mod Tournaments
pub mod InTournament
pub mod Preferences
pub mod Orders
pub mod Queues
pub mod Laws
pub mod Inside
