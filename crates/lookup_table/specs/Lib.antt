pub mod Table
pub mod Binding
pub mod Sound
pub mod Marks
