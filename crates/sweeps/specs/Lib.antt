pub mod Weighing
pub mod Replies
