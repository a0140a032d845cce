pub mod Addressees
pub mod BagView
