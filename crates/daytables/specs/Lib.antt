pub mod Faults
pub mod Labels
pub mod Rows
pub mod Tables
