-- Laws of the definitions of `specs/`, and the steps of the loops.
pub mod Reading
