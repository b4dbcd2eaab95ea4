pub mod Short
pub mod Fine
mod Minutes
