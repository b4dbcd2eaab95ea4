pub mod Plain
pub mod Calls
pub mod Feeding
pub mod Tables
pub mod Desk
pub mod Sound
pub mod Choosing
pub mod Numbers
