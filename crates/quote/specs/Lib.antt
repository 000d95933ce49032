pub mod Requests
pub mod Reading
pub mod Quoting
pub mod Faulty
