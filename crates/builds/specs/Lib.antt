pub mod Builds
pub mod Values
pub mod Answers
pub mod Laws
