-- The theorems of the desk, one module for each. Nothing rests on this crate but the program, on `Sound`.
pub mod Lawful
pub mod Demand1
pub mod Demand2
pub mod Breaking
pub mod Demand3
pub mod Replies
pub mod SameMinute
pub mod Sound
pub mod EventsSuffice
pub mod Listing
pub mod Cancelling
pub mod Guarding
pub mod Selling
pub mod Shams
pub mod Examples
