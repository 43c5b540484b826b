pub mod Breakdowns
pub mod Promises
