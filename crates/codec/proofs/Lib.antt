pub mod Lines
pub mod Blocks
pub mod Told
pub mod Writes
