pub mod Delivery
pub mod Lowest
pub mod Plans
