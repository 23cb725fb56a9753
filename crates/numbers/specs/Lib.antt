pub mod Cursors
pub mod Placing
