pub mod ImageText
pub mod MapText
pub mod Meaning
pub mod Faults
pub mod Words
pub mod Reading
