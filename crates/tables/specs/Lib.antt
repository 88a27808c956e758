pub mod Rows
pub mod Entries
pub mod Ways
pub mod Views
pub mod Closures
pub mod Totals
