pub mod Digits
pub mod RoundTrip
pub mod Normal
pub mod Asked
