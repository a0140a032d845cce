pub mod Spelled
pub mod Orders
pub mod Heads
pub mod Ends
pub mod Told
