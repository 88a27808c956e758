pub mod Entries
pub mod Gathers
pub mod Members
pub mod Narrowings
pub mod Pairs
