pub mod Orders
pub mod Entries
pub mod Lowers
pub mod Totals
pub mod Narrows
mod Written
mod Starts
mod Rows
mod Relaxed
mod Closing
