pub mod Settings
pub mod Configuration
pub mod Shape
pub mod Blocks
pub mod RecordLaws
