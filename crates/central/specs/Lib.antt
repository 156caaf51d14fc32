pub mod CentralView
