pub mod Group
pub mod Tally
pub mod Text
pub mod Table
pub mod Faults
pub mod View
pub mod Meaning
