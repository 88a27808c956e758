pub mod Gathered
pub mod Looks
pub mod Puts
pub mod Rising
pub mod Searches
