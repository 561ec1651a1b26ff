pub mod Found
pub mod Internal
