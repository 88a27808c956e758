mod Ends
mod Unmade
