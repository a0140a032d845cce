pub mod EvictView
