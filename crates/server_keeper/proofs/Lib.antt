pub mod Keys
pub mod Entries
pub mod Tops
pub mod Kept
pub mod Listed
