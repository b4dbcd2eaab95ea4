-- Laws of what bookings of any kind hold, and of their order in the book.
pub mod Holding
pub mod InOrder
