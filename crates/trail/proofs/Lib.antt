pub mod Arrays
pub mod Tables
pub mod InStep
pub mod Supports
pub mod Rings
pub mod Starts
