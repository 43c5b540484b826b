mod Marking
pub mod HandInTexts
