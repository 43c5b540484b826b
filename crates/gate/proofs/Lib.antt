pub mod Promising
pub mod Worked
