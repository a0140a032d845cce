pub mod Spelled
pub mod HistWords
pub mod Ends
pub mod Forms
pub mod Steps
pub mod Seeing
pub mod Judged
pub mod Tellings
mod Reasons
