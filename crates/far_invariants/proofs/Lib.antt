pub mod Keys
pub mod Noted
pub mod Puts
pub mod Records
