pub mod Banks
pub mod Reading
pub mod Exact
pub mod Numbers
pub mod Marking
pub mod Asked
pub mod Checks
