-- The laws that the proofs of this crate share.
pub mod Sums
pub mod Used
pub mod Marked
pub mod Steps
pub mod Counted
pub mod Rows
