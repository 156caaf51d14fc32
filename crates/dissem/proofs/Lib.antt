pub mod DissemFlags
pub mod DissemRounds
pub mod DissemStates
