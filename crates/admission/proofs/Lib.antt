pub mod Found
mod Free
