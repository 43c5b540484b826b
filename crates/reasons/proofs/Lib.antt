pub mod Truths
pub mod KernelTruths
pub mod LimitTruths
