mod Left
mod Digits
mod Over
mod Turns
mod Rows
mod Short
mod Writes
pub mod OneOutcome
