pub mod Checks
pub mod Kinds
pub mod Histories
pub mod Demands
pub mod Lawful
