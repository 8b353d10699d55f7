pub mod Refusals
pub mod Verdicts
pub mod Pouring
pub mod Racing
pub mod Asking
