pub mod Equality
pub mod Parts
pub mod RecordNumbers
