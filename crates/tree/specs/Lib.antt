pub mod TreeView
