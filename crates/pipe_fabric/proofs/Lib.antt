mod Filtering
mod Parting
mod Spread
pub mod Zips
