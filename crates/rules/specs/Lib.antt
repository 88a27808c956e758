pub mod Calls
pub mod Singles
