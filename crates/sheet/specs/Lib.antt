pub mod Replies
pub mod Rulings
pub mod Sheets
