pub mod Told
pub mod Lawful
pub mod Holds
pub mod Restarts
pub mod Fresh
pub mod Standing
