pub mod Checks
pub mod Exits
pub mod Demand1
pub mod Demand3
pub mod Replies
