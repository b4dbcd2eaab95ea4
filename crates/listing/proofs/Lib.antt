-- What the ranges of a window are, said of every minute; how a loop over low, the events and the ends of spans finds them;
-- and the theorems.
pub mod Laws
pub mod Theorems
mod Runs
mod Found
