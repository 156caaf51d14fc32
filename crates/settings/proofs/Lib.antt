mod Checks
mod Naming
pub mod Outcome
pub mod Trials
