pub mod Reached
pub mod Placed
