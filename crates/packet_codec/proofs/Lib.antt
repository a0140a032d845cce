pub mod FieldLaws
pub mod Composition
pub mod PacketLaws
pub mod Padding
pub mod SpellingLaws
pub mod Steps
