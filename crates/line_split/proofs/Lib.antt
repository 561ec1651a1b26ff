pub mod Lines
pub mod Split
pub mod Long
pub mod Case
