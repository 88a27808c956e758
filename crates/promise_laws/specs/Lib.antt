pub mod Held
pub mod Steps
