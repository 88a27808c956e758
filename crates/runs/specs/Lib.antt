pub mod Days
pub mod Held
pub mod Promise
pub mod Runs
pub mod Shown
