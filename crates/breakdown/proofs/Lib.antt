pub mod Holding
pub mod Worked
