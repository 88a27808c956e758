pub mod Asked
pub mod Meant
pub mod Rounds
