pub mod RunView
