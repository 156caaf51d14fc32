mod Lining
mod Passing
mod Answering
pub mod OneOutcome
