pub mod Decimals
pub mod Words
pub mod Rows
pub mod Lists
pub mod Blocks
