-- Laws of the definitions of `specs/`.
pub mod Came
pub mod Start
