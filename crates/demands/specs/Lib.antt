pub mod Demands
pub mod Listing
pub mod Cancelling
pub mod Guarding
pub mod Selling
pub mod Examples
