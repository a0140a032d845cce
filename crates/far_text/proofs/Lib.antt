pub mod Fronts
pub mod Digits
pub mod Cuts
pub mod Spelling
pub mod HexLaws
