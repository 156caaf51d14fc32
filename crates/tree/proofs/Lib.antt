pub mod TreeStates
pub mod TreeWords
