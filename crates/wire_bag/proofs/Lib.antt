mod Finding
mod Turning
