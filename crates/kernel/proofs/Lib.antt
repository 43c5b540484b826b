pub mod Opposite
pub mod Tops
pub mod KernelRecords
pub mod KernelTests
pub mod Converted
pub mod RoundTrip
pub mod Worked
