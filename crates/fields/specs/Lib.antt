pub mod Field
pub mod Reading
pub mod Bounds
pub mod Writing
