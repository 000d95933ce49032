pub mod Semirings
pub mod Models
pub mod Counts
pub mod Paths
pub mod Rules
pub mod Seen
