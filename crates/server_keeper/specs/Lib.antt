pub mod Entries
pub mod Faults
pub mod Lists
pub mod Scripted
pub mod Step
pub mod Table
