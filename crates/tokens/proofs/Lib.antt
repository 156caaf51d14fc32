pub mod Stepping
mod Numerals
mod Spelling
pub mod OneOutcome
