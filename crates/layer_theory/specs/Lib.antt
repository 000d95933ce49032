pub mod Layers
pub mod Laws
