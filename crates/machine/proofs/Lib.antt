mod Deciding
mod Tables
pub mod OneOutcome
