pub mod Clause
pub mod Literals
pub mod Scan
pub mod Table
pub mod Opening
pub mod Meaning
pub mod TwoSets
