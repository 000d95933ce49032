pub mod Found
pub mod Variants
pub mod Walks
