pub mod Bridges
pub mod Crossings
