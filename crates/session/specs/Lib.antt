pub mod Stands
pub mod View
pub mod Replies
pub mod Checking
pub mod Completing
pub mod Forcing
