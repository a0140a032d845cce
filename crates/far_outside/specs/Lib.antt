pub mod Bytes
pub mod Faults
pub mod Keeping
pub mod Listed
pub mod Pieces
pub mod Reading
