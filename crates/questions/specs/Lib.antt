-- What a question about a record means.
pub mod Question
pub mod Accepted
pub mod Answers
