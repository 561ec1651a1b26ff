pub mod Leads
pub mod Plays
