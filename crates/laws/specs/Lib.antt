pub mod Slips
pub mod Traces
pub mod Laws
