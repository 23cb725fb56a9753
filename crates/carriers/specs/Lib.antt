-- A record as bytes and as lists, and the one law that joins its reading with the accepted question.
pub mod Loading
pub mod Carried
