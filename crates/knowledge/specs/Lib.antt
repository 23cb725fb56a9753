-- Document 01, "Views and the core", rule by rule. Each rule stands in its own words first, then in the form that is
-- computed; Promises states that the two say the same, and what follows for the seats.
pub mod Farm
pub mod Views
pub mod Known
pub mod Chain
pub mod Settled
pub mod Promises
