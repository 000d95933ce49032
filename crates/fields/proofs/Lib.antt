pub mod Powers
pub mod Columns
