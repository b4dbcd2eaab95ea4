-- The laws that the proofs of this crate share.
pub mod Tidy
pub mod Going
pub mod Compared
pub mod Passing
