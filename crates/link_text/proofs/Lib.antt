pub mod WordLaws
pub mod ByLine
pub mod ReadingLaws
pub mod TellingLaws
