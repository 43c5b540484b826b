pub mod OtherQuanta
pub mod Dropping
pub mod Deciding
pub mod BothBounds
