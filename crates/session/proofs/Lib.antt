-- Laws of the definitions of `specs/`.
pub mod Orders
pub mod Fronts
pub mod Runs
pub mod Steps
pub mod Whole
