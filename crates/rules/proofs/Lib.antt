-- The laws of the rules, on which the demands and the code rest.
pub mod Feeding
pub mod Uses
pub mod Totals
pub mod Book
pub mod Checks
pub mod Tests
pub mod Choices
pub mod Obeys
pub mod Step
pub mod Exits
pub mod Numbers
pub mod Standing
pub mod Fine
