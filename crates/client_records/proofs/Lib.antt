pub mod Placed
pub mod Tells
pub mod Takes
