pub mod Ready
pub mod Internal
