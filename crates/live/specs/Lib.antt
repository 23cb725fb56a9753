-- Document 01, "Live": the table, the calls, and any run of them.
pub mod Calls
pub mod Answers
pub mod Runs
pub mod Promises
