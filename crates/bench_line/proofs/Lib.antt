pub mod Asked
pub mod Plays
pub mod Refused
