pub mod Session
pub mod Streaming
