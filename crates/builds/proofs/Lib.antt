pub mod Somes
pub mod Firsts
pub mod Orders
pub mod Tables
pub mod Marking
pub mod Answering
