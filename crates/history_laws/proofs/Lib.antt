pub mod Existing
pub mod Exposed
pub mod Facts
pub mod Places
pub mod Told
pub mod Unique
pub mod Walk
