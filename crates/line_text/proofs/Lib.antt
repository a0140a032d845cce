pub mod LineLaws
pub mod OutLaws
pub mod Heads
pub mod MeaningLaws
