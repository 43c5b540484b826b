pub mod Sorting
pub mod Ruling
pub mod Ranking
pub mod Summing
pub mod Gathering
pub mod SizeBySize
pub mod Worked
