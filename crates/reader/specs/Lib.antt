pub mod LineView
pub mod ReadView
