pub mod LineSteps
pub mod Orders
pub mod Sounds
