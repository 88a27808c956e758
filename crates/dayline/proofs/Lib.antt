pub mod Digits
pub mod ByteNumbers
pub mod WrittenBack
pub mod Pieces
pub mod Wholes
