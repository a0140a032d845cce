pub mod Bodies
pub mod Fronts
pub mod Keys
pub mod Padding
pub mod Taken
