pub mod HotView
