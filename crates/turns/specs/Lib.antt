pub mod BitView
pub mod Saying
pub mod View
pub mod Stepping
pub mod Stopping
pub mod CountView
pub mod PlayView
