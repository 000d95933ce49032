pub mod Replies
pub mod Replayed
