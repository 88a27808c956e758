pub mod Alike
pub mod Obeying
pub mod Steps
pub mod Views
