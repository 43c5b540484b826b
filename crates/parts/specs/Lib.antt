pub mod Breakdowns
