pub mod Finding
pub mod Standing
pub mod Reason
