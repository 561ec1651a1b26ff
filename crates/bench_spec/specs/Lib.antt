pub mod Bench
pub mod Run
