pub mod Writing
mod Lining
