pub mod Parted
pub mod Parts
