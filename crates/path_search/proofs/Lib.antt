-- What the definitions of `specs/` find and test, said of chains of links of any length.
pub mod Chains
pub mod Loops
pub mod Routes
pub mod Paths
pub mod InRange
pub mod Answers
pub mod Agree
pub mod Needed
pub mod Theorems
mod DistanceLaws
mod Picks
mod Sets
mod LayerLaws
mod Cuts
