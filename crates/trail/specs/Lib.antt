pub mod Ring
pub mod Entries
pub mod View
pub mod Rows
pub mod Support
pub mod Building
pub mod Beginning
