pub mod Faults
pub mod Causes
pub mod Fields
pub mod Places
pub mod Reading
