-- What the lister's own functions are about.
pub mod Listing
