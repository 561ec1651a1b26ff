pub mod Places
pub mod HeldPlaces
