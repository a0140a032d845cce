pub mod Bound
pub mod Counts
pub mod Drops
pub mod Adds
pub mod Places
pub mod Unique
pub mod Marks
pub mod Empty
