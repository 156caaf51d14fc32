pub mod Kept
pub mod SinkView
pub mod WriteView
