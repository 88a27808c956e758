pub mod Bunkers
pub mod Settings
