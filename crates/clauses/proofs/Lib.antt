pub mod Literals
pub mod Scans
pub mod Tables
pub mod Openings
pub mod Spelled
pub mod TwoSets
pub mod InStep
