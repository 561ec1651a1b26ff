pub mod Page
pub mod Claim
