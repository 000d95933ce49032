pub mod Picks
pub mod Checked
pub mod Keeping
pub mod Completed
pub mod Questions
