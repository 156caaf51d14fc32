pub mod DissemView
