pub mod Line
pub mod Round
pub mod Walk
