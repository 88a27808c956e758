pub mod Arguments
pub mod Folders
pub mod Printing
