pub mod Answer
pub mod Internal
