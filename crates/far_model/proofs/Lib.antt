pub mod Members
pub mod Rows
pub mod Runs
pub mod Steps
