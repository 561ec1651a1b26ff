pub mod Moves
pub mod Short
pub mod Does
pub mod Handed
pub mod Restarts
pub mod Orders
