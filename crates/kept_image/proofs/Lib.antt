pub mod WordLaws
pub mod LineLaws
pub mod VersionLaws
pub mod IndexLaws
pub mod ReadingLaws
pub mod OneReading
