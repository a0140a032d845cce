pub mod Spellings
pub mod Places
pub mod Picking
pub mod Verbs
pub mod Refused
