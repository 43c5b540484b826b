pub mod Worded
pub mod Promising
