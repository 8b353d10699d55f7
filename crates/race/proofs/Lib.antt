pub mod Crossing
pub mod Turns
pub mod Homing
pub mod Outing
pub mod Deciding
