pub mod Dues
pub mod Sames
pub mod Sends
pub mod Slots
pub mod Staying
pub mod Telling
pub mod Ticks
