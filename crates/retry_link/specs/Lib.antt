pub mod Frames
pub mod FrameReading
pub mod FrameFaults
pub mod Sender
pub mod Receiver
pub mod Link
pub mod Reliable
