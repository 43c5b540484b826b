pub mod KeyText
pub mod ProgramInput
