pub mod FromPlainBook
pub mod Examples
pub mod Cutting
pub mod Samples
