pub mod Climbing
pub mod Utilisation
pub mod OneFinish
pub mod Loops
