-- Laws of the definitions of `specs/`.
pub mod Writing
pub mod Decimals
pub mod Lines
pub mod Figures
pub mod Examples
