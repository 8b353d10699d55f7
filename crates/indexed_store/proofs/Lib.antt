pub mod Rooms
pub mod Indexing
pub mod Filling
pub mod Flagging
pub mod Pairing
