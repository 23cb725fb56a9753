-- The customer's three conditions. Start with Conditions; then Refusals (condition 1), Answers (2), Honest (3), and EntryPoints, which
-- says that the contracts of the functions speak of these. Order, Good and Rules have the words that they are said in.
pub mod Conditions
pub mod Refusals
pub mod Answers
pub mod Adopted
pub mod Honest
pub mod EntryPoints
pub mod Order
pub mod Good
pub mod Rules
