pub mod Calls
pub mod Examples
pub mod Faults
pub mod Law
pub mod Runs
pub mod Shapes
pub mod Tests
pub mod Tracks
