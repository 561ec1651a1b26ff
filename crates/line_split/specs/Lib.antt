pub mod Lines
pub mod Split
