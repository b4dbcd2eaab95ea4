-- Laws of the definitions of `specs/`, and the steps of the loops.
pub mod Walking
pub mod Opening
pub mod Moving
pub mod Ended
pub mod Reading
pub mod Found
pub mod Filled
