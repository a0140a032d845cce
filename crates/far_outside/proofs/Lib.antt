pub mod Further
pub mod Writing
