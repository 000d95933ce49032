pub mod Placed
pub mod Parted
pub mod Embedded
pub mod Paired
pub mod Shifted
