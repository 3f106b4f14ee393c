pub mod Arrivals
pub mod Buckets
pub mod Levels
pub mod Sound
pub mod Theorems
