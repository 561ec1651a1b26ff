pub mod Passed
pub mod Tests
