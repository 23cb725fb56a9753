-- Document 01, "The lister's page", whole: what the page of a record is, and what writing it into a lent buffer means.
pub mod Page
pub mod Printing
pub mod Promises
