-- What is promised of questions on the live table.
pub mod Promises
