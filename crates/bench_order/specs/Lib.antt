pub mod Performed
pub mod Internal
