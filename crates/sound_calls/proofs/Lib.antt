-- The laws that the proofs of this crate share, and that a record tells its answer.
pub mod Handed
pub mod Ways
pub mod Granted
pub mod Figures
pub mod Tells
