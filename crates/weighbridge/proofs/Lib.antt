mod Lists
mod Prefixes
mod Pushes
mod Searches
