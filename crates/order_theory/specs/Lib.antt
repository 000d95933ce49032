pub mod Orders
pub mod Asked
