pub mod Words
pub mod Form
pub mod Reading
pub mod Good
pub mod Walk
pub mod Told
pub mod Reason
