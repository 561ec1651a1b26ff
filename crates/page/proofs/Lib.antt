pub mod Laws
pub mod Scan
