pub mod Firsts
pub mod Clear
pub mod Walks
pub mod Reaching
pub mod Sets
pub mod Filling
