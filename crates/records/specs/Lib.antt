pub mod Limits
pub mod Refusals
pub mod Records
pub mod Jobs
pub mod Ranges
pub mod Calls
pub mod RecordLaws
