pub mod Messages
pub mod Numbers
pub mod Ready
pub mod Laws
pub mod Carries
pub mod Short
pub mod Order
