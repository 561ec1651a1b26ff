pub mod Line
pub mod Claim
