-- Document 01, "The lister's page": the lines of the page, and what printing one into a lent buffer means.
pub mod Lines
pub mod Printing
pub mod Examples
pub mod Promises
