pub mod Words
pub mod Courses
pub mod Turning
pub mod Counting
pub mod Looping
pub mod OneOutcome
