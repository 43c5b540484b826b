pub mod Questions
pub mod Stages
pub mod Plans
