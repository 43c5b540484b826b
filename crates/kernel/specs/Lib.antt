pub mod Priorities
pub mod KernelRecords
pub mod KernelConfiguration
pub mod Conversions
pub mod Promises
pub mod RecordLaws
