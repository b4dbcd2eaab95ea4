pub mod Updating
pub mod Holding
