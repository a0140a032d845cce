pub mod KeptItems
pub mod RestartBlocks
pub mod ToldHistory
