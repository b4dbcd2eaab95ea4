-- The theorems of a session, one module for each. Nothing rests on this crate.
pub mod PlainBook
pub mod Examples
pub mod Cutting
pub mod LineByLine
pub mod Remembers
pub mod Places
pub mod Begun
pub mod Changed
pub mod Shams
pub mod OneLineEach
pub mod Samples
