pub mod Stretches
pub mod Bookings
