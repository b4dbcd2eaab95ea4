-- Laws of the definitions of `specs/`.
pub mod Packing
pub mod Library
pub mod Written
pub mod Reading
pub mod Refusals
pub mod RoundTrips
pub mod Examples
