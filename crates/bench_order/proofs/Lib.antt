pub mod Orders
pub mod Plays
