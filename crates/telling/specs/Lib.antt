pub mod Laid
pub mod Marks
