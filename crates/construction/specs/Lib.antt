-- How the code finds known sets and gives answers, beside the rules of knowledge.
pub mod KnownSets
pub mod Answers
