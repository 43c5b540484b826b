pub mod ByPeriods
pub mod Sums
pub mod Subsets
