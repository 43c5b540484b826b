pub mod Configured
pub mod Tabled
pub mod HandingIn
pub mod Verdicts
pub mod Worked
