pub mod Takeable
pub mod Plan
pub mod Guarantee
pub mod Layers
pub mod Keys
pub mod WorkedLists
