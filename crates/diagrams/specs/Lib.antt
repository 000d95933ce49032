pub mod Rows
pub mod Walk
pub mod Reach
pub mod Roots
pub mod Causes
pub mod Reading
pub mod Filled
