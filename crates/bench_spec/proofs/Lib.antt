pub mod Sends
pub mod Logged
pub mod Ends
pub mod Numbers
pub mod Fair
pub mod Delivery
pub mod Run
