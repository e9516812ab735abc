-- What holds at each turn of the record checker, what is true of an accepted book, and worked examples.
pub mod Turns
pub mod Accepted
pub mod Written
pub mod Cases
