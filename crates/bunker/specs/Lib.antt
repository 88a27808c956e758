pub mod Choices
pub mod Following
pub mod NextStretch
pub mod Ranges
pub mod Records
pub mod Rooms
pub mod Shortens
pub mod Stretches
