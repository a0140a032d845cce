pub mod Script
pub mod Words
pub mod Reading
pub mod Faults
pub mod Transcript
