pub mod Answers
pub mod Taken
pub mod Steps
pub mod Program
