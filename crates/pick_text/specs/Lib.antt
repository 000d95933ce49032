pub mod PickLines
pub mod Said
pub mod Orders
