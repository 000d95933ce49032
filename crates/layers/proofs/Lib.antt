pub mod Cuts
pub mod Replies
