pub mod Asked
pub mod Progressing
pub mod Choosing
pub mod LevelByLevel
pub mod Answering
pub mod Promising
pub mod Holding
