pub mod Entering
pub mod Histogram
pub mod Raising
pub mod Settings
pub mod Surveys
pub mod Tails
