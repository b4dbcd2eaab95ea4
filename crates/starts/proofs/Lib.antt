-- The laws that the calls rest on.
pub mod BestStart
