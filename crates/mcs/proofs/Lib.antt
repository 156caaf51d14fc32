pub mod McsStates
