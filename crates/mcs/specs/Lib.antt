pub mod McsView
