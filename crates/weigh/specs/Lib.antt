pub mod Reports
pub mod Streams
