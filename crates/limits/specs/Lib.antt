pub mod Boxes
pub mod Limited
