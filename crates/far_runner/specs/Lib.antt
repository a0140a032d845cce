pub mod Ended
pub mod Picked
pub mod Pumped
pub mod SharedView
pub mod Turns
