pub mod Laziness
