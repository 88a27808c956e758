pub mod Afters
pub mod Keeping
pub mod Likeness
pub mod Promised
pub mod Settling
pub mod Standing
pub mod WordBits
pub mod Words
