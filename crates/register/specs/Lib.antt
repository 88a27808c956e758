pub mod Lookups
pub mod Numbers
pub mod Standing
