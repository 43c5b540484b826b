pub mod Demand
pub mod Undelayed
pub mod Breakdown
