pub mod Ends
pub mod Lines
pub mod Runs
pub mod Standing
pub mod Demand
pub mod Plans
