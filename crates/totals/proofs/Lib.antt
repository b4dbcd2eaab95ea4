-- The laws that the proofs of this crate share.
pub mod Totals
pub mod Ended
pub mod Kept
