pub mod Decimal
pub mod Parsing
pub mod FieldByField
pub mod RowByRow
pub mod TextTrip
pub mod Apart
pub mod Blocking
pub mod TextCases
