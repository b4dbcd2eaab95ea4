-- The laws that the proofs of this crate share.
pub mod Updates
pub mod InOrder
pub mod Times
pub mod Front
pub mod Held
pub mod GivenBack
pub mod Moved
pub mod Written
pub mod Entered
pub mod Cancelled
pub mod MovedOn
