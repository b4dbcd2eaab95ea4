-- What the columns of a list say of a call.
pub mod Columns
