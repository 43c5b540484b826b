pub mod SettingRecords
pub mod SettingTests
pub mod Policies
pub mod HandIns
pub mod Shapes
pub mod RoundTrip
pub mod Edges
