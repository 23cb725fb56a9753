-- Numbers and words as text, and what putting a text into a lent buffer means.
pub mod Digits
pub mod Words
pub mod Putting
