pub mod FieldRows
pub mod LineNumbers
pub mod Placing
pub mod Reading
