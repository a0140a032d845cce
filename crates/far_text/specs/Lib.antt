pub mod Options
pub mod Pieces
pub mod Numbers
pub mod Words
pub mod Text
pub mod Spelled
pub mod Hex
