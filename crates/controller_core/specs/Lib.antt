pub mod ControllerView
pub mod Going
pub mod Inside
pub mod Notes
pub mod Room
pub mod Staying
pub mod Wants
