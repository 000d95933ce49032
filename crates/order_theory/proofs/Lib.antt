pub mod Alike
pub mod Walking
pub mod Holding
pub mod Reading
pub mod Widths
pub mod Picking
pub mod Ordered
pub mod LineNumbers
